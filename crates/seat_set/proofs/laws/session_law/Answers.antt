use Rattle.seat_set.proofs.SessionHistory.{session_law}
use Rattle.seat_set.proofs.laws.session_law.Goals as goal

pub returns : goal.returns
returns c = record { law = session_law }
