-- Texts: UTF-8 without a zero byte.
use Rattle.std.specs.Prelude.{ℕ, ◌<◌, ◌==◌, ◌&&◌, Bool, not, List, slice_index, IsTrue}
use Rattle.std.specs.List.{list_all}
use Rattle.std.specs.Char.{is_ascii}
use Rattle.std.specs.Str.{is_utf8}

-- no byte is zero
abbrev pub has_no_zero : List ℕ → Bool
has_no_zero bytes = list_all (λ b. not (b == 0)) bytes

-- each byte is of ASCII, and none is zero
abbrev pub is_plain : List ℕ → Bool
is_plain bytes = list_all (λ b. not (b == 0) && is_ascii b) bytes

-- UTF-8 without a zero byte, as a test
abbrev pub is_text : List ℕ → Bool
is_text bytes = has_no_zero bytes && is_utf8 bytes

-- each element is a byte
abbrev pub IsBytes : List ℕ → Type 0
IsBytes bytes = (i : ℕ) → slice_index bytes i < 256

-- UTF-8 without a zero byte, each element a byte
abbrev pub IsText : List ℕ → Type 0
IsText bytes = IsTrue (is_text bytes) × IsBytes bytes
