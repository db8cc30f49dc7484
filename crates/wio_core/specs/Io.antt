-- What a read and a write do to the bytes that a source or a sink tells, and to its count of
-- faults.
use Rattle.std.specs.Prelude.{◌≡◌, ℕ, ◌+◌, ◌-◌, ◌^◌, ◌≤◌, min, List, length, take, Option, None}
use Rattle.std.specs.Io.KnownBytes.{Appends, Consumes, IsAtEnd}

-- a count one higher, which stands still at its last value
abbrev pub raised : ℕ → ℕ
raised n = min (n + 1) (2 ^ 64 - 1)

-- the count went up by one, or stands at its last value
abbrev pub Rose : ℕ → ℕ → Type 0
Rose before after = after ≡ raised before

-- what doesn't tell its bytes never begins to
abbrev pub StaysQuiet : Option (List ℕ) → Option (List ℕ) → Type 0
StaysQuiet before after = before ≡ None → after ≡ None

-- a read moved the first n bytes that were left into the front of the buffer and to the end of what
-- was given, none only at the end
pub record Reads (given_before given_after left_before left_after : Option (List ℕ)) (n : ℕ)
    (buf : List ℕ) : Type 0 where
  pub within : n ≤ length buf
  pub given : Appends given_before given_after (take n buf)
  pub left : Consumes left_before left_after (take n buf)
  pub end : n ≡ 0 → IsAtEnd left_after
