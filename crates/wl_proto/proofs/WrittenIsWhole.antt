-- What is written is one whole message.
use Rattle.std.proofs.Common.{◌≡◌, ℕ, ◌+◌, ◌-◌, ◌*◌, ◌/◌, ◌%◌, ◌^◌, ◌<◌, ◌≤◌, List, [], ◌∷◌, ◌++◌, length, arith, refl, sym, ◌∙◌}
use Rattle.std.proofs.lemmas.List.{length-append, length-take}
use Rattle.std.proofs.lemmas.Nat.{from_le_bytes-to_le_bytes_4}
use Rattle.wl_wire.specs.Messages.{size_of, IsMessage, id_of, opcode_of, body_of}
use Rattle.wl_wire.specs.Spelling.{word_bytes, text_bytes, text_len, zeros}
use Rattle.wl_proto.specs.Grammar.{Value, word, signed, text, null, token}
use Rattle.wl_proto.specs.Rows.{Message}
use Rattle.wl_proto.specs.Spelling.{value_bytes, value_len, values_len, spelling, row_bytes, message_len, message_bytes}

pub text_length : (t : List ℕ) → length (text_bytes t) ≡ text_len (length t)
unfolding text_bytes
text_length t =
    let ceros : List ℕ = 0 ∷ 0 ∷ 0 ∷ 0 ∷ [] in
    omega (
      arith,
      length-append (word_bytes (length t + 1) ++ t) (zeros (length t)),
      length-append (word_bytes (length t + 1)) t,
      length-take (4 - length t % 4) ceros,
    )

pub value_length : (v : Value) → length (value_bytes v) ≡ value_len v
value_length (word n) = refl
value_length (signed z) = refl
value_length (text t) = text_length t
value_length null = refl
value_length (token n) = refl

pub spelling_length : (vs : List Value) → length (spelling vs) ≡ values_len vs
spelling_length [] = refl
spelling_length (v ∷ vs) =
    omega (arith, length-append (value_bytes v) (spelling vs), value_length v, spelling_length vs)

value_aligned : (v : Value) → value_len v % 4 ≡ 0
value_aligned (word n) = refl
value_aligned (signed z) = refl
value_aligned (text t) = omega arith
value_aligned null = refl
value_aligned (token n) = refl

values_aligned : (vs : List Value) → values_len vs % 4 ≡ 0
values_aligned [] = refl
values_aligned (v ∷ vs) = omega (arith, value_aligned v, values_aligned vs)

-- the size and the opcode that a header's second word holds
size_in : (size opcode : ℕ) → opcode < 2 ^ 16 → size ≤ 4096 →
    (65536 * size + opcode) / 65536 % 256 + 256 * ((65536 * size + opcode) / 16777216 % 256) ≡ size
size_in size opcode lt le = omega arith

opcode_in : (size opcode : ℕ) → opcode < 2 ^ 16 →
    (65536 * size + opcode) % 256 + 256 * ((65536 * size + opcode) / 256 % 256) ≡ opcode
opcode_in size opcode lt = omega arith

pub written_whole : (id : ℕ) (m : Message) → id < 2 ^ 32 → m.opcode < 2 ^ 16 → message_len m ≤ 4096 →
    IsMessage (message_bytes id m) × (id_of (message_bytes id m) ≡ id) × (opcode_of (message_bytes id m) ≡ m.opcode)
    × (body_of (message_bytes id m) ≡ spelling m.values)
unfolding row_bytes
written_whole id m id-lt op-lt le =
    let size = message_len m in
    let is : size_of (message_bytes id m) ≡ size = size_in size m.opcode op-lt le in
    let len : length (message_bytes id m) ≡ size = omega (arith, spelling_length m.values) in
    let good : (8 ≤ size) × (size ≤ 4096) × (size % 4 ≡ 0) =
    (omega arith, le, omega (arith, values_aligned m.values)) in
    ((rw is good, len ∙ sym is), from_le_bytes-to_le_bytes_4 id id-lt, opcode_in size m.opcode op-lt, refl)
