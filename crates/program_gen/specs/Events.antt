-- The events in bytes that were put for a peer.
use Rattle.std.specs.Prelude.{ℕ, List, Bool, ◌==◌, ◌&&◌}
use Rattle.std.specs.List.{count_by}
use Rattle.wl_wire.specs.Messages.{id_of, opcode_of, messages}

-- the message comes from the object with this id, and has this opcode
abbrev pub is_event : (id opcode : ℕ) → List ℕ → Bool
is_event id opcode message = (id_of message == id) && (opcode_of message == opcode)

-- how many such messages the bytes begin with, among all that they begin with
unfoldable pub events_in : (id opcode : ℕ) → List ℕ → ℕ
events_in id opcode bytes = count_by (is_event id opcode) (messages bytes)
