-- Where calls lead.
use Rattle.std.specs.Prelude.{◌≡◌, List}
use Rattle.broker_steps.specs.declared.limits.Limits.{Limits}
use Rattle.broker_model.specs.declared.journal.Entry.{Entry}
use Rattle.broker_model.specs.Settle.{history}
use Rattle.broker_core.specs.Broker.{Broker}
use Rattle.broker_core.specs.Calls.{Call, AreSteps, after_calls}

-- calls of the shared state lead to the broker from the beginning on, none of which puts an end that
-- follows from another
pub record IsLedTo (limits : Limits) (b : Broker) : Type 0 where
  pub calls : List Call
  pub own : AreSteps calls
  pub leads : b ≡ after_calls limits calls

-- it has the limits, and its journal is the history of some steps
pub record IsOfSteps (limits : Limits) (b : Broker) : Type 0 where
  pub steps : List Entry
  pub allowed : b.limits ≡ limits
  pub is : b.journal ≡ history limits.store steps
