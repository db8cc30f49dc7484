-- A printed step has no zero byte, and a printed message is a whole one.
use Rattle.std.proofs.Common.{◌≡◌, ℕ, ◌+◌, ◌*◌, ◌/◌, ◌%◌, ◌^◌, ◌<◌, ◌≤◌, true, List, length, refl, sym, ◌∙◌, subst, arith}
use Rattle.std.proofs.lemmas.Nat.{from_le_bytes-to_le_bytes_4}
use Rattle.wl_wire.specs.Messages.{size_of, IsMessage, id_of, opcode_of, body_of}
use Rattle.wl_wire.specs.Texts.{has_no_zero}
use Rattle.session_text.specs.declared.line.SessionLine.{SessionLine}
use Rattle.broker_steps.specs.Ranges.{IsBody}
use Rattle.session_text.specs.Steps.{message_bytes}
use Rattle.lines_transcript.specs.Printing.{Prints}
use Rattle.session_text.proofs.SpelledSteps.{session_parts}

pub printed_clean : (bytes : List ℕ) (line : SessionLine) → Prints bytes line → has_no_zero bytes ≡ true
printed_clean bytes line h = let known =
    session_parts line h.1 in subst (λ b. has_no_zero b ≡ true) (sym h.0) known.clean

-- the size and the opcode that a header's second word holds
size_in : (size opcode : ℕ) → opcode < 2 ^ 16 → size ≤ 4096 →
    (65536 * size + opcode) / 65536 % 256 + 256 * ((65536 * size + opcode) / 16777216 % 256) ≡ size
size_in size opcode lt le = omega arith

opcode_in : (size opcode : ℕ) → opcode < 2 ^ 16 →
    (65536 * size + opcode) % 256 + 256 * ((65536 * size + opcode) / 256 % 256) ≡ opcode
opcode_in size opcode lt = omega arith

pub message_whole : (id opcode : ℕ) (body : List ℕ) → id < 2 ^ 32 → opcode < 2 ^ 16 → IsBody body
    → IsMessage (message_bytes id opcode body) × (id_of (message_bytes id opcode body) ≡ id)
    × (opcode_of (message_bytes id opcode body) ≡ opcode) × (body_of (message_bytes id opcode body) ≡ body)
message_whole id opcode body id-lt op-lt h =
    let size = 8 + length body in
    let is : size_of (message_bytes id opcode body) ≡ size = size_in size opcode op-lt (omega arith) in
    let len : length (message_bytes id opcode body) ≡ size = omega arith in
    let good : (8 ≤ size) × (size ≤ 4096) × (size % 4 ≡ 0) = (omega arith, omega arith, omega arith) in
    ((rw is good, len ∙ sym is), from_le_bytes-to_le_bytes_4 id id-lt, opcode_in size opcode op-lt, refl)
