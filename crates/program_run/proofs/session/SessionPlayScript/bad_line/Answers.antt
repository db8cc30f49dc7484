use Rattle.std.proofs.Common.{arith}
use Rattle.program_run.proofs.SessionsPlayed.{count_by, names_by}
use Rattle.program_run.proofs.session.SessionPlayScript.bad_line.Goals as goal

pub returns : goal.returns
returns c = λ done output few stood.
    names_by c.args.self.now.stage c.args.self.now.player c.args.self.now.before c.saturating_add.result done output
    stood
    (omega (
      arith,
      few,
      count_by c.args.self.now.stage c.args.self.now.player c.args.self.now.before done output stood,
      c.saturating_add.ensures,
    ))
