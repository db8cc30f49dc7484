-- A list whose oldest items can be let go, as contracts see it. Its oldest item has the number 1.
use Rattle.std.specs.Prelude.{ℕ, ◌+◌, List, [], ◌∷◌, length, ◌==◌, nat_le, if◌then◌else◌, Option, Some, None}

-- all items, the newest first; how many of the oldest were let go; and how many more may be put
-- before memory has to be taken
pub record Long (T : Type 0) : Type 0 where
  pub items : List T
  pub kept_from : ℕ
  pub room : ℕ

-- the item with a number
abbrev pub item_at : {T : Type 0} → List T → ℕ → Option T
item_at [] number = None
item_at (item ∷ older) number =
    (if number == length older + 1 then Some item else item_at older number)

-- the item with a number, unless it was let go
abbrev pub kept_at : {T : Type 0} → (kept_from : ℕ) → List T → ℕ → Option T
kept_at kept_from items number = (if nat_le number kept_from then None else item_at items number)
