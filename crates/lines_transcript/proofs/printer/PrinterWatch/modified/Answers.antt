use Rattle.std.proofs.Common.{ℕ, List, refl, sym, subst}
use Rattle.std.specs.Prelude.{string_bytes}
use Rattle.lines_transcript.specs.Transcript.{vmods_line}
use Rattle.broker_core.specs.Watched.{Watched}
use Rattle.broker_core.specs.Watched.Watched.{Modified}
use Rattle.lines_transcript.specs.Transcribed.{with_feed}
use Rattle.lines_transcript.specs.Printed.{Printing, MayPrint}
use Rattle.lines_transcript.proofs.PrintedSteps.{printing, shell_printed}
use Rattle.lines_transcript.proofs.printer.PrinterWatch.modified.Goals as goal

pub returns : goal.returns
returns c =
    let event : Watched = Modified c.args.number c.args.mods in
    let line : List ℕ = vmods_line c.args.number c.args.mods in
    subst (λ (p : Printing). MayPrint p event
    (printing (string_bytes c.self.inside.text) (string_bytes c.add_line.new.text) c.is_err-self-inside.result))
    c.self.view_is
    (shell_printed event (with_feed line) (string_bytes c.self.inside.text) (string_bytes c.self.inside.shell)
    (string_bytes c.add_line.new.text)
    c.self.inside.is_short c.is_err-self-inside.result c.add_line.result c.if-self.false
    c.is_err-self-inside.ensures.value refl
    (c.add_line.ensures.ok line (rw (sym c.as_str.ensures.value) at c.write_vmods-written.ensures.value)))
