use Rattle.std.proofs.Common.{◌≡◌, ap, ◌∙◌, true}
use Rattle.wl_wire.specs.Texts.{is_text}
use Rattle.lines_transcript.proofs.PrintedLines.{is_text-string_bytes}
use Rattle.lines_transcript.proofs.printing.finished.Goals as goal

pub unreachable-requires : goal.unreachable-requires
unreachable-requires c =
    let bytes = c.in-Err.ensures.cases.0 ∙ ap (λ v. v.items) c.into_bytes.ensures.value in
    let text : is_text c.in-Err.field-0.items ≡ true = ap is_text bytes ∙ is_text-string_bytes c.args.line c.requires in
    absurd (cc (text, c.in-Err.ensures.cases.1))
