-- The arguments that the writer takes, as values.
use Rattle.std.specs.Prelude.{ℕ, ◌+◌, ◌*◌, min, List, [], ◌∷◌, ◌++◌, length, drop}
use Rattle.wl_proto.specs.Grammar.{Value, word, signed, text, null, token}
use Rattle.wl_wire.specs.Spelling.{word_bytes}
use Rattle.wl_proto.specs.Spelling.{values_len, spelling, row_bytes}
use Rattle.wl_proto.specs.Rows.{Message}
use Rattle.wl_proto.specs.declared.argument.Argument.{Argument}
use Rattle.wl_proto.specs.declared.argument.Argument.TheVariants as argument

abbrev pub value_of : Argument → Value
value_of (argument.Word n) = word n
value_of (argument.Signed z) = signed z
value_of (argument.Text t) = text t.now
value_of argument.Null = null
value_of (argument.Token t) = token t

abbrev pub values_of : List Argument → List Value
values_of [] = []
values_of (v ∷ vs) = value_of v ∷ values_of vs

-- the buffer after the writer put a message into it, part by part
unfoldable pub out_after : ℕ → ℕ → List Value → List ℕ → List ℕ
out_after receiver opcode vs out =
    ((([] ++ word_bytes receiver) ++ word_bytes (65536 * (8 + values_len vs) + opcode))
    ++ spelling vs) ++ drop (values_len vs) (drop 4 (drop 4 out))

-- how many bytes a message may have that is written into the buffer
unfoldable pub most : List ℕ → ℕ
most out = min 4096 (length out)

-- what the writer says, and the buffer, after it wrote a message
unfoldable pub put_result : ℕ → ℕ → List Value → List ℕ → ℕ × List ℕ
put_result receiver opcode vs out =
    (8 + values_len vs, row_bytes receiver opcode vs ++ drop (8 + values_len vs) out)

-- the same of a message, put to an object of this id
abbrev pub message_put : ℕ → Message → List ℕ → ℕ × List ℕ
message_put id m out = put_result id m.opcode m.values out
