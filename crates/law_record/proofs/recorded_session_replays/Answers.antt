use Rattle.law_record.proofs.RecordedReplays.{recorded_replays}
use Rattle.law_record.proofs.recorded_session_replays.Goals as goal

pub returns : goal.returns
returns c = record { law = recorded_replays }
