-- What a written message holds: its opcode, and its body.
use Rattle.std.proofs.Common.{◌≡◌, ℕ, ◌+◌, ◌-◌, ◌*◌, ◌^◌, ◌<◌, ◌≤◌, List, ◌++◌, length, take, drop, slice_index, refl, ◌∙◌, ap, arith}
use Rattle.std.proofs.lemmas.List.{length-append, length-drop, take-append-le}
use Rattle.std.proofs.Math.Seq.{take-length}
use Rattle.wl_proto.specs.Rows.{Message}
use Rattle.wl_proto.specs.Spelling.{row_bytes, message_bytes, message_len, spelling}
use Rattle.wl_proto.proofs.WrittenIsWhole.{written_whole}
use Rattle.broker_steps.specs.declared.step.Step.TheVariants as steps
use Rattle.broker_steps.specs.declared.step.PeerStep.TheVariants as peers
use Rattle.session_gen.specs.Sending.{sends}

-- the header's opcode, whatever stands behind the message
pub opcode_in : (id : ℕ) (m : Message) (new rest : List ℕ) → new ≡ message_bytes id m ++ rest
    → id < 2 ^ 32 → m.opcode < 2 ^ 16 → message_len m ≤ 4096 → slice_index new 4 + 256 * slice_index new 5 ≡ m.opcode
unfolding row_bytes
opcode_in id m new rest is id-lt op-lt le =
    ap (λ b. slice_index b 4 + 256 * slice_index b 5) is ∙ (written_whole id m id-lt op-lt le).2

-- the bytes between the header and the message's end are its body, in a buffer that keeps its length
pub body_in : (id : ℕ) (m : Message) (old new : List ℕ) (size : ℕ) → new ≡ message_bytes id m ++ drop size old
    → length new ≡ length old → size ≤ length old → take (size - 8) (drop 8 new) ≡ spelling m.values
unfolding row_bytes
body_in id m old new size is same le =
    let rest = drop size old in
    let whole : length (message_bytes id m) ≡ 8 + length (spelling m.values) = omega arith in
    let total : length new ≡ length (message_bytes id m) + length rest =
    ap length is ∙ length-append (message_bytes id m) rest in
    let size-is : size - 8 ≡ length (spelling m.values) =
    omega (arith, whole, total, same, le, length-drop size old) in
    ap (λ b. take (size - 8) (drop 8 b)) is
    ∙ take-append-le (size - 8) (spelling m.values) rest (omega (arith, size-is))
    ∙ ap (λ n. take n (spelling m.values)) size-is ∙ take-length (spelling m.values)

-- a message of these parts is the step that sends it
pub sends_it : (p id : ℕ) (m : Message) (opcode : ℕ) (body : List ℕ) → opcode ≡ m.opcode → body ≡ spelling m.values
    → steps.Peer p (peers.Message id opcode body) ≡ sends p id m
unfolding sends
sends_it p id m opcode body opcode-is body-is = rw (opcode-is, body-is) refl
