-- A journal as contracts see it.
use Rattle.std.specs.Prelude.{ℕ, List, Option}
use Rattle.out_store.specs.Long.{item_at}
use Rattle.broker_model.specs.declared.journal.Entry.{Entry}

-- all entries, the newest first; how many of the oldest were let go; and how many more may be put
-- before memory has to be taken
pub record Recorded : Type 0 where
  pub entries : List Entry
  pub kept_from : ℕ
  pub room : ℕ

-- what has a number in such a list, let go or not; the oldest has the number 1
abbrev pub entry_at : {A : Type 0} → List A → ℕ → Option A
entry_at journal number = item_at journal number
