-- The characters of a UTF-8 text, by its bytes.
use Rattle.std.specs.Prelude.{ℕ, Bool, ◌&&◌, ◌||◌, not, List, [], ◌∷◌, length, nat_lt, nat_le, ◌==◌, slice_index, take_while, if◌then◌else◌}
use Rattle.std.specs.List.{list_all}

-- whether the byte goes on a character that an earlier byte began (10xxxxxx)
abbrev pub goes_on : ℕ → Bool
goes_on b = nat_le 128 b && nat_lt b 192

-- the first character: a byte and those behind it that go on with it
abbrev pub first_char : List ℕ → List ℕ
first_char [] = []
first_char (b ∷ bs) = b ∷ take_while goes_on bs

-- the last character: likewise, up to the text's end
abbrev pub last_char : List ℕ → List ℕ
last_char [] = []
last_char (b ∷ bs) = if list_all goes_on bs then b ∷ bs else last_char bs

-- whether a character begins at the offset n, or the text ends there
abbrev pub is_boundary : List ℕ → ℕ → Bool
is_boundary bs n = n == length bs || (nat_lt n (length bs) && not (goes_on (slice_index bs n)))
