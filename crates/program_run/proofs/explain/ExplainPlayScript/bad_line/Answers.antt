use Rattle.std.proofs.Common.{arith}
use Rattle.program_run.proofs.SessionsExplained.{count_by, names_by}
use Rattle.program_run.proofs.explain.ExplainPlayScript.bad_line.Goals as goal

pub returns : goal.returns
returns g c = λ done output few stood.
    let which = g.W.Wanted.which in
    let self = c.args.self.now in
    names_by which self.stage self.player self.before c.saturating_add.result done output stood
    (omega (
      arith,
      few,
      count_by which self.stage self.player self.before done output stood,
      c.saturating_add.ensures,
    ))
