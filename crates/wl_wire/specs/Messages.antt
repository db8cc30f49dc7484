-- Messages by the size in their header, and the messages that bytes begin with.
use Rattle.std.specs.Prelude.{◌≡◌, ℕ, zero, suc, ◌+◌, ◌*◌, ◌%◌, ◌<◌, ◌≤◌, ◌==◌, ◌&&◌, Bool, not, nat_le, if◌then◌else◌, List, [], ◌∷◌, ◌++◌, length, take, drop, slice_index, Option, Some, None}
use Rattle.std.specs.Int.{w32, from_le_bytes}

-- the size that the header tells, in its bytes 6 and 7
abbrev pub size_of : List ℕ → ℕ
size_of bytes = slice_index bytes 6 + 256 * slice_index bytes 7

-- the object's id, the opcode and the body of a message
abbrev pub id_of : List ℕ → ℕ
id_of bytes = from_le_bytes w32 (take 4 bytes)

abbrev pub opcode_of : List ℕ → ℕ
opcode_of bytes = slice_index bytes 4 + 256 * slice_index bytes 5

abbrev pub body_of : List ℕ → List ℕ
body_of bytes = drop 8 bytes

-- 8 to 4096 bytes, a multiple of 4
abbrev pub IsGoodSize : ℕ → Type 0
IsGoodSize n = (8 ≤ n) × (n ≤ 4096) × (n % 4 ≡ 0)

-- the bytes are one whole message
abbrev pub IsMessage : List ℕ → Type 0
IsMessage bytes = IsGoodSize (size_of bytes) × (length bytes ≡ size_of bytes)

-- the bytes begin a message that isn't whole, and whose size isn't bad as far as it is known
abbrev pub IsPartial : List ℕ → Type 0
IsPartial bytes = 8 ≤ length bytes → IsGoodSize (size_of bytes) × (length bytes < size_of bytes)

-- the bytes begin with a header whose size is bad
abbrev pub IsBad : List ℕ → Type 0
IsBad bytes = (8 ≤ length bytes) × (IsGoodSize (size_of bytes) → ⊥)

-- a good size, as a test
abbrev pub is_good : ℕ → Bool
is_good n = nat_le 8 n && nat_le n 4096 && (n % 4 == 0)

-- the bytes begin with a whole message of a good size
abbrev pub is_whole : List ℕ → Bool
is_whole bytes =
    nat_le 8 (length bytes) && is_good (size_of bytes) && nat_le (size_of bytes) (length bytes)

abbrev pub messages_within : ℕ → List ℕ → List (List ℕ)
messages_within zero bytes = []
messages_within (suc n) bytes =
    if is_whole bytes
    then take (size_of bytes) bytes ∷ messages_within n (drop (size_of bytes) bytes) else []

-- the longest list of whole messages with good sizes that the bytes begin with
unfoldable pub messages : List ℕ → List (List ℕ)
messages bytes = messages_within (length bytes) bytes

-- pieces put behind one another
abbrev pub joined : List (List ℕ) → List ℕ
joined [] = []
joined (piece ∷ pieces) = piece ++ joined pieces

-- what stands behind the whole messages
abbrev pub behind : List ℕ → List ℕ
behind bytes = drop (length (joined (messages bytes))) bytes

-- the bad size that the bytes begin with, where they begin with one
abbrev pub bad_size_at : List ℕ → Option ℕ
bad_size_at bytes =
    if nat_le 8 (length bytes) && not (is_good (size_of bytes)) then Some (size_of bytes) else None

-- the bad size that stands behind the whole messages, where one does
unfoldable pub bad_size : List ℕ → Option ℕ
bad_size bytes = bad_size_at (behind bytes)

abbrev pub AreMessages : List (List ℕ) → Type 0
AreMessages [] = Unit {0}
AreMessages (m ∷ ms) = IsMessage m × AreMessages ms

-- `messages` in other words: the bytes begin with them, each is a message, and no list of messages
-- that the bytes begin with is longer
pub record IsLongest (bytes : List ℕ) (ms : List (List ℕ)) : Type 0 where
  pub each : AreMessages ms
  pub rest : List ℕ
  pub front : bytes ≡ joined ms ++ rest
  pub longest : (others : List (List ℕ)) (more : List ℕ) → AreMessages others →
      bytes ≡ joined others ++ more → (further : List (List ℕ)) × (ms ≡ others ++ further)
