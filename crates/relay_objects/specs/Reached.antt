-- What is reached by a list of events, one after the other: a post by what it is told, a watcher by
-- what it is told.
use Rattle.std.specs.Prelude.{◌≡◌, List, [], ◌∷◌}

-- the value after is reached from the value before by one step for each event of the list, in
-- order, and by no other
abbrev pub Reached : {P : Type 0} → {E : Type 0} → (P → E → P → Type 0) → P → List E → P → Type 0
Reached may_follow before [] after = after ≡ before
Reached {P} may_follow before (event ∷ rest) after =
    (mid : P) × may_follow before event mid × Reached may_follow mid rest after
