-- What is written is the header and the spelling.
use Rattle.std.proofs.Common.{◌≡◌, ℕ, ◌+◌, ◌*◌, List, ◌++◌, drop, ap, ◌∙◌}
use Rattle.std.proofs.lemmas.List.{drop-drop}
use Rattle.wl_wire.specs.Spelling.{word_bytes}
use Rattle.wl_proto.specs.Grammar.{Value}
use Rattle.wl_proto.specs.Spelling.{values_len, spelling, row_bytes}
use Rattle.wl_proto.specs.Arguments.{out_after}

pub out_is : (id opcode : ℕ) (vs : List Value) (out : List ℕ) →
    out_after id opcode vs out ≡ row_bytes id opcode vs ++ drop (8 + values_len vs) out
unfolding out_after row_bytes
out_is id opcode vs out =
    ap (λ (l : List ℕ). ((word_bytes id ++ word_bytes (65536 * (8 + values_len vs) + opcode)) ++ spelling vs) ++ l)
    (ap (λ (l : List ℕ). drop (values_len vs) l) (drop-drop 4 4 out) ∙ drop-drop (values_len vs) 8 out)
