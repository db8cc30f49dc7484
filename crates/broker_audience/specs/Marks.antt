-- Marked places of a list, and what a visit to them makes of it.
use Rattle.std.specs.Prelude.{ℕ, suc, ◌≤◌, ◌<◌, ◌||◌, ◌==◌, nat_lt, ◌-◌, if◌then◌else◌, Bool, false, List, [], ◌∷◌}

-- the marked places, and below which place any can be marked
pub record Marked : Type 0 where
  pub places : List ℕ
  pub bound : ℕ

-- the place is among these
abbrev pub is_marked : ℕ → List ℕ → Bool
is_marked k [] = false
is_marked k (m ∷ rest) = (m == k) || is_marked k rest

-- by rising place, from the first of these two on and below the second
abbrev pub AreWithin : (from bound : ℕ) → List ℕ → Type 0
AreWithin from bound [] = Unit {0}
AreWithin from bound (m ∷ rest) = (from ≤ m) × (m < bound) × AreWithin (suc m) bound rest

-- where the element at a place is once the one at the first place left
abbrev pub lowered : (left place : ℕ) → ℕ
lowered left place = (if nat_lt left place then place - 1 else place)
