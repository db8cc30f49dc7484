use Rattle.program_run.proofs.LinesReplayed.{sessions_are_replayed}
use Rattle.program_run.proofs.laws.replay_law.Goals as goal

pub returns : goal.returns
returns c = record { law = sessions_are_replayed }
