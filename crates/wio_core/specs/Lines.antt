-- Lines among bytes: where one ends, and what a reader of lines gathers from a source. This file
-- names no struct.
use Rattle.std.specs.Prelude.{ℕ, ◌≡◌, ◌≢◌, ◌+◌, ◌-◌, ◌<◌, ◌≤◌, List, ◌∷◌, ◌++◌, length, take, drop, Option, Some, IfSome}
use Rattle.std.specs.List.{All}
use Rattle.std.specs.Option.{option_map}
use Rattle.std.specs.Io.KnownBytes.{Appends, Consumes, IsAtEnd}
use Rattle.wio_core.specs.declared.line_reader.LineStop.{LineStop}
use Rattle.wio_core.specs.declared.line_reader.LineStop.TheVariants as stop
use Rattle.wio_core.specs.declared.line_search.Front.{Front}
use Rattle.wio_core.specs.declared.line_search.Front.TheVariants as front

-- no line feed is among the bytes
abbrev pub LacksFeed : List ℕ → Type 0
LacksFeed bytes = All (λ b. b ≢ 10) bytes

-- the bytes are a line, its line feed and the rest
pub record BeginsWithLine (bytes line rest : List ℕ) : Type 0 where
  pub split : bytes ≡ line ++ 10 ∷ rest
  pub lacks : LacksFeed line
  pub short : length line ≤ 8400

-- more bytes than a line may have stand without a line feed
pub record IsTooLong (bytes : List ℕ) : Type 0 where
  pub many : 8400 < length bytes
  pub lacks : LacksFeed (take 8401 bytes)

-- the bytes are the beginning of a line, whose end isn't among them
pub record IsOpen (bytes : List ℕ) : Type 0 where
  pub few : length bytes ≤ 8400
  pub lacks : LacksFeed bytes

-- a line of n bytes stands at the front
pub record HasLine (bytes : List ℕ) (n : ℕ) : Type 0 where
  pub within : n < length bytes
  pub line : BeginsWithLine bytes (take n bytes) (drop (n + 1) bytes)

-- what stands at the front of the bytes
abbrev pub IsFront : Front → List ℕ → Type 0
IsFront (front.Line n) bytes = HasLine bytes n
IsFront front.Long bytes = IsTooLong bytes
IsFront front.Open bytes = IsOpen bytes

-- reads of a source gave these bytes
pub record TookFrom (given_before given_after left_before left_after : Option (List ℕ))
    (bytes : List ℕ) : Type 0 where
  pub given : Appends given_before given_after bytes
  pub left : Consumes left_before left_after bytes

-- the bytes that were read stand behind those held, and leave as many fewer that may be taken,
-- where that has a limit
pub record Gathers (held_before held_after : List ℕ) (room_before room_after : Option ℕ)
    (bytes : List ℕ) : Type 0 where
  pub held : held_after ≡ held_before ++ bytes
  pub room : room_after ≡ option_map (λ n. n - length bytes) room_before
  pub within : IfSome room_before (λ n. length bytes ≤ n)

-- why no line comes of the bytes held: the source ended where a read gave nothing, so that more
-- might have been taken
abbrev pub HasCause : LineStop → List ℕ → Option ℕ → Option (List ℕ) → Type 0
HasCause stop.End held room left = IsOpen held × IsAtEnd left × (room ≢ Some 0)
HasCause stop.Long held room left = IsTooLong held
HasCause stop.Limit held room left = IsOpen held × (room ≡ Some 0)
HasCause stop.ReadFault held room left = IsOpen held
