-- Lists whose elements have rising numbers.
use Rattle.std.specs.Prelude.{ℕ, ◌+◌, ◌≤◌, List, [], ◌∷◌}

-- the numbers of the elements rise, from n on
abbrev pub RisesBy : {A : Type 0} → (A → ℕ) → ℕ → List A → Type 0
RisesBy number n [] = Unit {0}
RisesBy number n (x ∷ xs) = (n ≤ number x) × RisesBy number (number x + 1) xs
