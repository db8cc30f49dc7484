-- The part of a field's text that is sent to the input method: what stands round the cursor.
use Rattle.std.specs.Prelude.{ℕ, ◌+◌, ◌-◌, ◌<◌, ◌≤◌, min, List, length, IsCharBoundary}

-- the offset n, moved up to a boundary
pub record IsMovedUp (text : List ℕ) (n place : ℕ) : Type 0 where
  pub bound : n ≤ place
  pub boundary : IsCharBoundary text place
  pub nearest : (i : ℕ) → n ≤ i → i < place → ¬ (IsCharBoundary text i)

-- the offset n, moved down to a boundary
pub record IsMovedDown (text : List ℕ) (n place : ℕ) : Type 0 where
  pub bound : place ≤ n
  pub boundary : IsCharBoundary text place
  pub nearest : (i : ℕ) → place < i → i ≤ n → ¬ (IsCharBoundary text i)

-- from 2000 bytes before the cursor, or the text's beginning, moved up; to 4000 bytes later, or the
-- text's end, moved down
pub record IsWindow (text : List ℕ) (cursor begin end : ℕ) : Type 0 where
  pub begins : IsMovedUp text (cursor - 2000) begin
  pub ends : IsMovedDown text (min (begin + 4000) (length text)) end
