-- What stands in the room of a take
use Rattle.std.specs.Prelude.{ℕ, List, [], take}
use Rattle.hub_lock.specs.declared.room.Places.{Places}

-- the bytes that the last take took, and the tokens that came with them
pub record Taken : Type 0 where
  pub bytes : List ℕ
  pub tokens : List ℕ

-- none of them
abbrev pub nothing_taken : Taken
nothing_taken = record { bytes = []; tokens = [] }

-- so many bytes and tokens of these places
abbrev pub room_of : Places → ℕ × ℕ → Taken
room_of places counts = record {
  bytes = take counts.0 places.bytes.items;
  tokens = take counts.1 places.tokens.items;
}
