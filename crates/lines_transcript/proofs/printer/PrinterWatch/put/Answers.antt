use Rattle.std.proofs.Common.{ℕ, List, refl, sym, subst}
use Rattle.std.specs.Prelude.{string_bytes}
use Rattle.lines_transcript.specs.Transcript.{out_line}
use Rattle.broker_core.specs.Watched.{Watched}
use Rattle.broker_core.specs.Watched.Watched.{Put}
use Rattle.lines_transcript.specs.Transcribed.{with_feed}
use Rattle.lines_transcript.specs.Printed.{Printing, MayPrint}
use Rattle.lines_transcript.proofs.PrintedSteps.{printing, text_printed}
use Rattle.lines_transcript.proofs.printer.PrinterWatch.put.Goals as goal

pub returns : goal.returns
returns c =
    let event : Watched = Put c.args.number c.args.peer c.args.bytes.now c.args.tokens.now in
    let line : List ℕ = out_line c.args.number c.args.peer c.args.bytes.now c.args.tokens.now in
    subst (λ (p : Printing). MayPrint p event
    (printing (string_bytes c.add_line.new.text) (string_bytes c.self.inside.shell) c.is_err-self-inside.result))
    c.self.view_is
    (text_printed event (with_feed line) (string_bytes c.self.inside.text) (string_bytes c.add_line.new.text)
    (string_bytes c.self.inside.shell)
    c.self.inside.is_short c.is_err-self-inside.result c.add_line.result c.if-self.false
    c.is_err-self-inside.ensures.value refl
    (c.add_line.ensures.ok line (rw (sym c.as_str.ensures.value) at c.write_out-written.ensures.value))
    c.add_line.ensures.err)
