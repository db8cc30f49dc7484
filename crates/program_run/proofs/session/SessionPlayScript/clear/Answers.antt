use Rattle.program_run.proofs.SessionsPlayed.{holds_none_by}
use Rattle.program_run.proofs.session.SessionPlayScript.clear.Goals as goal

pub returns-clause-none : goal.returns-clause-none
returns-clause-none c = holds_none_by c.args.self.now.player _ c.clear.ensures
