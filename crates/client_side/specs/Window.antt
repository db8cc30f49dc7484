-- The part of a field's text that is sent.
use Rattle.std.specs.Prelude.{ℕ, zero, suc, ◌+◌, ◌-◌, min, List, length, slice_range, if◌then◌else◌}
use Rattle.trial_field.specs.Characters.{is_boundary}
use Rattle.trial_field.specs.FieldText.{FieldText, whole}

-- the first boundary from n on, if one comes within so many bytes
abbrev pub first_boundary : List ℕ → ℕ → ℕ → ℕ
first_boundary text zero n = n
first_boundary text (suc more) n =
    if is_boundary text n then n else first_boundary text more (n + 1)

-- the last boundary up to n
abbrev pub last_boundary : List ℕ → ℕ → ℕ
last_boundary text zero = zero
last_boundary text (suc n) = if is_boundary text (suc n) then suc n else last_boundary text n

-- from 2000 bytes before the cursor, or the text's beginning, moved up to a boundary
unfoldable pub window_begin : List ℕ → ℕ → ℕ
window_begin text cursor = first_boundary text (length text) (cursor - 2000)

-- to 4000 bytes later, or the text's end, moved down to a boundary
unfoldable pub window_end : List ℕ → ℕ → ℕ
window_end text begin = last_boundary text (min (begin + 4000) (length text))

-- the text that is sent, and where the cursor stands in it
abbrev pub window_of : FieldText → List ℕ
window_of t =
    let begin = window_begin (whole t) (length t.before) in
    slice_range (whole t) begin (window_end (whole t) begin)

abbrev pub cursor_of : FieldText → ℕ
cursor_of t = length t.before - window_begin (whole t) (length t.before)
