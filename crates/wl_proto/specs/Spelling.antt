-- The bytes of a message, as they are written.
use Rattle.std.specs.Prelude.{ℕ, ◌+◌, ◌*◌, List, [], ◌∷◌, ◌++◌, length}
use Rattle.wl_wire.specs.Spelling.{word_bytes, int_bytes, text_bytes, text_len}
use Rattle.wl_proto.specs.Grammar.{Value, word, signed, text, null, token}
use Rattle.wl_proto.specs.Rows.{Message}

-- an argument's bytes; a descriptor takes none
abbrev pub value_bytes : Value → List ℕ
value_bytes (word n) = word_bytes n
value_bytes (signed z) = int_bytes z
value_bytes (text t) = text_bytes t
value_bytes null = word_bytes 0
value_bytes (token n) = []

abbrev pub value_len : Value → ℕ
value_len (word n) = 4
value_len (signed z) = 4
value_len (text t) = text_len (length t)
value_len null = 4
value_len (token n) = 0

-- the body with zero padding
abbrev pub spelling : List Value → List ℕ
spelling [] = []
spelling (v ∷ vs) = value_bytes v ++ spelling vs

abbrev pub values_len : List Value → ℕ
values_len [] = 0
values_len (v ∷ vs) = value_len v + values_len vs

-- the size of a message, its header included
abbrev pub message_len : Message → ℕ
message_len m = 8 + values_len m.values

-- a message to an object: its id, size and opcode, and the body
unfoldable pub row_bytes : ℕ → ℕ → List Value → List ℕ
row_bytes id opcode vs =
    (word_bytes id ++ word_bytes (65536 * (8 + values_len vs) + opcode)) ++ spelling vs

abbrev pub message_bytes : ℕ → Message → List ℕ
message_bytes id m = row_bytes id m.opcode m.values
