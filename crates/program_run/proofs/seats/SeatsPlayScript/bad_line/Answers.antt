use Rattle.std.proofs.Common.{arith}
use Rattle.program_run.proofs.SeatsPlayed.{names_next}
use Rattle.program_run.proofs.seats.SeatsPlayScript.bad_line.Goals as goal

pub returns : goal.returns
returns c = λ done output few s.
    names_next c.args.self.now done output c.saturating_add.result s
    (omega (arith, few, s.count, c.saturating_add.ensures))
