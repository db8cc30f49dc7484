use Rattle.law_record.proofs.GeneratedReplays.{generated_replays}
use Rattle.law_record.proofs.generated_session_replays.Goals as goal

pub returns : goal.returns
returns c = record { law = generated_replays c.lines_replay.ensures.law }
