-- What a directory shows: what was made under ids, and its room.
use Rattle.std.specs.Prelude.{ℕ, ◌<◌, List, [], ◌∷◌, map, reverse}
use Rattle.broker_model.specs.Ids.{Made}
use Rattle.broker_audience.specs.declared.directory.Named.{Named}

-- what was made, the newest first, and how much more may be put before memory has to be taken
pub record Directed : Type 0 where
  pub made : List Made
  pub room : ℕ

-- the same object
abbrev pub made_of : Named → Made
made_of n = record { peer = n.peer; id = n.id; label = n.label; interface = n.interface }

-- the objects with the newest first
abbrev pub made_from : List Named → List Made
made_from objects = reverse (map made_of objects)

-- the label is above that of the newest, if there is one
abbrev pub IsNewest : ℕ → List Made → Type 0
IsNewest label [] = Unit {0}
IsNewest label (m ∷ older) = m.label < label

-- each label is above the one before
abbrev pub AreFalling : List Made → Type 0
AreFalling [] = Unit {0}
AreFalling (m ∷ older) = IsNewest m.label older × AreFalling older
