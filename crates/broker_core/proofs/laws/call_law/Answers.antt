use Rattle.broker_core.proofs.StampsOfCalls.{call_law}
use Rattle.broker_core.proofs.laws.call_law.Goals as goal

pub returns : goal.returns
returns c = record { law = call_law }
