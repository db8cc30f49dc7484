-- The field messages of a stream, by their ids and values.
use Rattle.std.specs.Prelude.{◌≡◌, ℕ, List, [], ◌∷◌, ◌++◌, Bool, ◌&&◌, ◌==◌, nat_le, if◌then◌else◌, None, Result, IsOk}
use Rattle.std.specs.List.{AllByRecursion, count_by}
use Rattle.wl_wire.specs.Messages.{id_of, opcode_of, body_of, messages, bad_size}
use Rattle.wl_proto.specs.declared.interface.Interface.TheVariants.{TextInput}
use Rattle.wl_proto.specs.declared.refuse.Refuse.{Refuse}
use Rattle.wl_proto.specs.Rows.{Message}
use Rattle.wl_proto.specs.Reading.{event_reading}

-- a message by its object's id, and by what its body reads as to a text input
pub record Heard : Type 0 where
  pub id : ℕ
  pub reading : Result Message Refuse

-- the opcodes of what a text input is told of its method: preedit, commit, delete and done
abbrev pub is_field_opcode : ℕ → Bool
is_field_opcode n = nat_le 2 n && nat_le n 5

-- a message with such an opcode is a field message, under any id; any other says nothing
abbrev pub heard_by : (id opcode : ℕ) → List ℕ → List Heard
heard_by id opcode body =
    (if is_field_opcode opcode
    then record { id = id; reading = event_reading TextInput opcode [] body } ∷ [] else [])

abbrev pub heard_in : List (List ℕ) → List Heard
heard_in [] = []
heard_in (m ∷ ms) = heard_by (id_of m) (opcode_of m) (body_of m) ++ heard_in ms

-- the whole field messages of a stream
unfoldable pub heard : List ℕ → List Heard
heard bytes = heard_in (messages bytes)

abbrev pub is_done : List ℕ → Bool
is_done m = opcode_of m == 5

-- how many of them are a done
unfoldable pub dones : List ℕ → ℕ
dones bytes = count_by is_done (messages bytes)

-- its body isn't malformed
abbrev pub IsWell : Heard → Type 0
IsWell h = IsOk h.reading

-- What was sent has no bad size, and its whole field messages are, in ids and values, a front of
-- those that are told.
pub record IsLike (told sent : List ℕ) : Type 0 where
  pub sized : bad_size sent ≡ None
  pub well : AllByRecursion IsWell (heard sent)
  pub rest : List Heard
  pub front : heard told ≡ heard sent ++ rest
