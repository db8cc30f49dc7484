-- Room in a journal.
use Rattle.std.specs.Prelude.{◌+◌, ◌<◌, ◌≤◌, List}
use Rattle.broker_steps.specs.declared.limits.Limits.{Limits}
use Rattle.broker_model.specs.declared.journal.Entry.{Entry}
use Rattle.broker_model.specs.Limits.{number_counted, weight}

-- for one more entry, whatever it is: a message weighs at most 4,104
pub record HasRoom (limits : Limits) (journal : List Entry) : Type 0 where
  pub counted : number_counted journal < limits.entries
  pub light : weight journal + 4104 ≤ limits.weight
