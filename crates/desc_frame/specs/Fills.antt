-- A part of a frame that is read whole, or not: how far the source came.
use Rattle.std.specs.Prelude.{◌≡◌, ℕ, ◌+◌, ◌^◌, ◌<◌, List, length, slice_index, Option}
use Rattle.std.specs.Io.KnownBytes.{IsAtEnd}
use Rattle.desc_frame.specs.declared.Got.{Got}
use Rattle.desc_frame.specs.declared.Got.TheVariants.{Bytes, End, Torn, BadFrame, ReadFault}

-- each number is a byte
abbrev pub AreBytes : List ℕ → Type 0
AreBytes bytes = (i : ℕ) → slice_index bytes i < 256

-- each number is a token of 32 bits
abbrev pub AreTokens : List ℕ → Type 0
AreTokens tokens = (i : ℕ) → slice_index tokens i < 2 ^ 32

-- why a part that begins so many bytes into its frame isn't whole, where so much of it was taken
abbrev pub EndsWithin : Got → ℕ → List ℕ → Option (List ℕ) → Type 0
EndsWithin End before taken left = (before + length taken ≡ 0) × IsAtEnd left
EndsWithin (Torn n) before taken left = (0 < n) × (before + length taken ≡ n) × IsAtEnd left
EndsWithin ReadFault before taken left = Unit {0}
EndsWithin (Bytes n t) before taken left = ⊥
EndsWithin (BadFrame n t) before taken left = ⊥
