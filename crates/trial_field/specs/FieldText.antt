-- The text of a field: what its log makes of an empty one.
use Rattle.std.specs.Prelude.{◌≡◌, ℕ, ◌+◌, ◌-◌, Bool, ◌&&◌, List, [], ◌∷◌, ◌++◌, length, take, drop, nat_le, if◌then◌else◌}
use Rattle.trial_field.specs.Characters.{first_char, last_char, is_boundary}
use Rattle.trial_field.specs.Log.{Batch, Entry, inserted, went_left, went_right, rubbed, done}

-- the most bytes of a text
abbrev pub text_limit : ℕ
text_limit = 65536

-- the text before the cursor, the text behind it, and the preedit
pub record FieldText : Type 0 where
  pub before : List ℕ
  pub behind : List ℕ
  pub preedit : List ℕ

abbrev pub whole : FieldText → List ℕ
whole t = t.before ++ t.behind

-- text and cursor are as before
abbrev pub IsSamePlace : FieldText → FieldText → Type 0
IsSamePlace old new = (whole new ≡ whole old) × (length new.before ≡ length old.before)

-- the text goes to the cursor, and the cursor behind it; nothing changes where the whole would pass
-- the limit
abbrev pub insert : List ℕ → FieldText → FieldText
insert text t =
    if nat_le (length (whole t) + length text) text_limit then record t { before = t.before ++ text }
    else t

abbrev pub without_last : List ℕ → List ℕ
without_last text = take (length text - length (last_char text)) text

-- the cursor goes over the character before it
abbrev pub left : FieldText → FieldText
left t = record t { before = without_last t.before; behind = last_char t.before ++ t.behind }

-- the cursor goes over the character behind it
abbrev pub right : FieldText → FieldText
right t = record
    t {
      before = t.before ++ first_char t.behind;
      behind = drop (length (first_char t.behind)) t.behind;
    }

-- the character before the cursor goes
abbrev pub rub : FieldText → FieldText
rub t = record t { before = without_last t.before }

-- whether so many bytes before the cursor and behind it stay within the text and cut no character
abbrev pub can_delete : ℕ → ℕ → FieldText → Bool
can_delete before behind t =
    nat_le before (length t.before) && nat_le behind (length t.behind)
    && is_boundary (whole t) (length t.before - before)
    && is_boundary (whole t) (length t.before + behind)

-- so many bytes before the cursor and behind it go, or nothing where they can't
abbrev pub delete : ℕ → ℕ → FieldText → FieldText
delete before behind t =
    if can_delete before behind t
    then record t {
      before = take (length t.before - before) t.before;
      behind = drop behind t.behind;
    }
    else t

-- the old preedit is dropped, the range deleted, the string inserted, the new preedit kept
abbrev pub edit_by : Batch → FieldText → FieldText
edit_by batch t =
    let dropped = record t { preedit = [] } in
    record (insert batch.string (delete batch.before batch.after dropped)) {
      preedit =
          batch.preedit;
    }

-- the text after one more entry
abbrev pub after : Entry → FieldText → FieldText
after (inserted text) t = insert text t
after went_left t = left t
after went_right t = right t
after rubbed t = rub t
after (done batch) t = edit_by batch t

-- the text after all entries, of which the first is the newest
abbrev pub text_of : List Entry → FieldText
text_of [] = record { before = []; behind = []; preedit = [] }
text_of (entry ∷ older) = after entry (text_of older)
