use Rattle.std.proofs.Common.{◌≡◌, ◌∙◌, ap, subst}
use Rattle.std.specs.Prelude.{ℕ, List, IfOk, string_bytes}
use Rattle.session_text.specs.declared.line.SessionLine.TheVariants as sessions
use Rattle.session_text.specs.Steps.{message_bytes}
use Rattle.lines_transcript.specs.Printing.{Prints}
use Rattle.lines_transcript.proofs.step_line.peer_step_line.Goals as goal

pub returns-in_ok-bytes-in-Message : goal.returns-in_ok-bytes-in-Message
returns-in_ok-bytes-in-Message c =
    let id = c.in-Message.id in
    let opcode = c.in-Message.opcode in
    let bytes : c.deref.result.now ≡ message_bytes id opcode c.in-Message.body =
    c.deref.ensures.value ∙ c.in_ok-bytes-in-Message.ensures ∙ ap (message_bytes id opcode) c.as_slice.ensures.value in
    let Printed : List ℕ → Type 0 =
    λ b. IfOk c.bytes_line.result (λ s. Prints (string_bytes s) (sessions.Bytes c.args.peer b)) in
    rw c.in-Message.is (subst Printed bytes c.bytes_line.ensures)
