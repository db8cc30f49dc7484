-- How an argument is written: words are little-endian, and padding is zero.
use Rattle.std.specs.Prelude.{ℕ, ℤ, ◌+◌, ◌-◌, ◌%◌, List, [], ◌∷◌, ◌++◌, length, take}
use Rattle.std.specs.Int.{w32, to_le_bytes, cast_unsigned}

-- a uint, an object or a new_id
abbrev pub word_bytes : ℕ → List ℕ
word_bytes n = to_le_bytes w32 n

-- an int
abbrev pub int_bytes : ℤ → List ℕ
int_bytes z = to_le_bytes w32 (cast_unsigned w32 z)

-- the zero byte that ends a text of that length, and the padding
abbrev pub zeros : ℕ → List ℕ
zeros len = take (4 - len % 4) (0 ∷ 0 ∷ 0 ∷ 0 ∷ [])

-- a string: its length with the zero byte, its text, the zero byte and the padding
unfoldable pub text_bytes : List ℕ → List ℕ
text_bytes t = (word_bytes (length t + 1) ++ t) ++ zeros (length t)

-- how many bytes a string takes whose text has that length
abbrev pub text_len : ℕ → ℕ
text_len len = 4 + len + (4 - len % 4)
