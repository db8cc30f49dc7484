-- What presses type, whatever list of them.
use Rattle.std.specs.Prelude.{◌≡◌, ◌≢◌, ◌⊎◌, ℕ, List, [], ◌∷◌, ◌++◌}
use Rattle.compose_method.specs.Table.{IsTable, own_texts}
use Rattle.compose_method.specs.Segments.{typed, rest_of}
use Rattle.compose_method.specs.Typing.{Typing, pressed, IsAfter}

-- the method after these presses, one after the other
abbrev pub after_presses : List ℕ → Typing → Typing
after_presses [] m = m
after_presses (key ∷ keys) m = after_presses keys (pressed key m)

-- the strings of their batches, one behind the other
abbrev pub strings_of : List ℕ → Typing → List ℕ
strings_of [] m = []
strings_of (key ∷ keys) m = (pressed key m).string ++ strings_of keys (pressed key m)

-- Behind other presses since the last activation these go on to what all of them type, and leave
-- what waits of all. The last preedit is the own texts of the keys that wait, where a key is
-- pressed, whatever it was before, and where none is, if it was so before.
pub record GoOn (m : Typing) (presses keys : List ℕ) : Type 0 where
  pub after : IsAfter (after_presses keys m) (presses ++ keys)
  pub table : (after_presses keys m).table ≡ m.table
  pub strings : typed m.table presses ++ strings_of keys m ≡ typed m.table (presses ++ keys)
  pub preedit : (keys ≢ []) ⊎ (m.preedit ≡ own_texts m.table m.rest) →
      (after_presses keys m).preedit ≡ own_texts m.table (rest_of m.table (presses ++ keys))

abbrev pub PressesGoOn : Type 0
PressesGoOn =
    (m : Typing) (presses keys : List ℕ) → IsTable m.table → IsAfter m presses → GoOn m presses keys
