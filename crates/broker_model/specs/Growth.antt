-- How a journal grows.
use Rattle.std.specs.Prelude.{◌≡◌, List, ◌++◌}
use Rattle.broker_model.specs.declared.journal.Entry.{Entry}

-- the journal has these entries more, the newest first
pub record IsMore (before after : List Entry) : Type 0 where
  pub more : List Entry
  pub is : after ≡ more ++ before
