use Rattle.law_held.proofs.SessionsHeld.{sessions_are_held}
use Rattle.law_held.proofs.sessions_are_held.Goals as goal

pub returns : goal.returns
returns c = record { law = sessions_are_held }
