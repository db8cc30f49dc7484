-- A printed message is a whole one.
use Rattle.std.specs.Prelude.{◌≡◌, ℕ, ◌^◌, ◌<◌, List}
use Rattle.wl_wire.specs.Messages.{IsMessage, id_of, opcode_of, body_of}
use Rattle.broker_steps.specs.Ranges.{IsBody}
use Rattle.session_text.specs.Steps.{message_bytes}

-- the bytes of a message are one whole message, with its id, its opcode and its body
abbrev pub MessagesAreWhole : Type 0
MessagesAreWhole =
    (id opcode : ℕ) (body : List ℕ) → id < 2 ^ 32 → opcode < 2 ^ 16 → IsBody body
    → IsMessage (message_bytes id opcode body) × (id_of (message_bytes id opcode body) ≡ id)
    × (opcode_of (message_bytes id opcode body) ≡ opcode)
    × (body_of (message_bytes id opcode body) ≡ body)
