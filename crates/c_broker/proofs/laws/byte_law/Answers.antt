use Rattle.c_broker.proofs.LedByCalls.{begins, stepped, received, of_steps}
use Rattle.c_broker.proofs.laws.byte_law.Goals as goal

pub returns-clause-new : goal.returns-clause-new
returns-clause-new c = begins

pub returns-clause-step : goal.returns-clause-step
returns-clause-step c = stepped

pub returns-clause-received : goal.returns-clause-received
returns-clause-received c = received

pub returns-clause-history : goal.returns-clause-history
returns-clause-history c = of_steps
