use Rattle.law_held.proofs.SessionsRead.{sessions_are_read}
use Rattle.law_held.proofs.sessions_are_read.Goals as goal

pub returns : goal.returns
returns c = record { law = sessions_are_read }
