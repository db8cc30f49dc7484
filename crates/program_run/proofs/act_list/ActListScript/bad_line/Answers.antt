use Rattle.std.proofs.Common.{◌+◌, ap}
use Rattle.program_run.proofs.ActsPlayed.{names_next}
use Rattle.program_run.proofs.act_list.ActListScript.bad_line.Goals as goal

pub returns : goal.returns
returns c = λ done output few s.
    names_next c.args.self.now done output c.acts.result (c.from.result + 1) s (c.acts.ensures.length s.log s.stands)
    (ap (λ k. k + 1) c.from.ensures)
