-- What the front of the bytes reads as, by computation.
use Rattle.std.specs.Prelude.{◌≡◌, ℕ, ℤ, ◌+◌, ◌-◌, ◌*◌, ◌/◌, ◌==◌, ◌&&◌, nat_lt, if◌then◌else◌, List, length, take, drop, slice_index, Option, Some, None, Result, Ok, Err}
use Rattle.std.specs.Int.{w32, from_le_bytes, cast_signed}
use Rattle.wl_wire.specs.Texts.{is_text}
use Rattle.wl_wire.specs.declared.arg_reader.Malformed.{Malformed}

-- what is read next, where something was read
infixl 10 ◌>>=◌
abbrev pub ◌>>=◌ : {A B : Type 0} → Option A → (A → Option B) → Option B
None >>= f = None
(Some x) >>= f = f x

-- what was read is what this says, and what is left is the rest; where nothing can be read all is
-- left
abbrev pub Reads : {X Y : Type 0} → (X → Y) → Result X Malformed → List ℕ → List ℕ →
    Option (Y × List ℕ) → Type 0
Reads view (Ok x) old new read = read ≡ Some (view x, new)
Reads view (Err e) old new read = (read ≡ None) × (new ≡ old)

-- the same of a function that returns the rest
abbrev pub Gives : {X Y : Type 0} → (X → Y) → Result X Malformed → Option Y → Type 0
Gives view (Ok x) read = read ≡ Some (view x)
Gives view (Err e) read = read ≡ None

-- a uint
unfoldable pub word_at : List ℕ → Option (ℕ × List ℕ)
word_at bytes =
    if nat_lt (length bytes) 4 then None else Some (from_le_bytes w32 (take 4 bytes), drop 4 bytes)

-- an int
unfoldable pub int_at : List ℕ → Option (ℤ × List ℕ)
int_at bytes = word_at bytes >>= (λ w. Some (cast_signed w32 w.0, w.1))

-- up to a multiple of 4
abbrev pub padded : ℕ → ℕ
padded n = (n + 3) / 4 * 4

-- the text of that length, its zero byte included, and what stands behind its padding
unfoldable pub text_at : ℕ → List ℕ → Option (List ℕ × List ℕ)
text_at len bytes =
    if nat_lt (length bytes) (padded len) then None
    else if slice_index bytes (len - 1) == 0 && is_text (take (len - 1) bytes)
    then Some (take (len - 1) bytes, drop (padded len) bytes)
    else None

-- the string behind a word that is its length
unfoldable pub string_behind : ℕ → List ℕ → Option (Option (List ℕ) × List ℕ)
string_behind len bytes =
    if len == 0 then Some (None, bytes) else text_at len bytes >>= (λ t. Some (Some t.0, t.1))

-- a string
unfoldable pub string_at : List ℕ → Option (Option (List ℕ) × List ℕ)
string_at bytes = word_at bytes >>= (λ w. string_behind w.0 w.1)
