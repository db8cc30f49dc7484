use Rattle.std.proofs.Common.{◌≡◌, ℕ, List, refl, sym, subst, rules}
use Rattle.std.specs.Prelude.{string_bytes, OnOk}
use Rattle.lines_transcript.specs.Transcript.{placed_line}
use Rattle.broker_core.specs.Watched.{Watched}
use Rattle.broker_core.specs.Watched.Watched.{Placed}
use Rattle.lines_transcript.specs.Transcribed.{with_feed}
use Rattle.lines_transcript.specs.Printed.{Printing, MayPrint}
use Rattle.lines_transcript.proofs.PrintedSteps.{printing, shell_printed}
use Rattle.lines_transcript.proofs.printer.PrinterWatch.placed.Goals as goal

pub returns : goal.returns
returns c =
    let event : Watched = Placed c.args.number c.args.peer c.args.id c.args.x c.args.y in
    let line : List ℕ = placed_line c.args.number c.args.peer c.args.id c.args.x c.args.y in
    let said : OnOk c.write_placed-written.result (string_bytes c.write_placed-written.new.line ≡ line) =
    search rules in
    subst (λ (p : Printing). MayPrint p event
    (printing (string_bytes c.self.inside.text) (string_bytes c.add_line.new.text) c.is_err-self-inside.result))
    c.self.view_is
    (shell_printed event (with_feed line) (string_bytes c.self.inside.text) (string_bytes c.self.inside.shell)
    (string_bytes c.add_line.new.text)
    c.self.inside.is_short c.is_err-self-inside.result c.add_line.result c.if-self.false
    c.is_err-self-inside.ensures.value refl
    (c.add_line.ensures.ok line (rw (sym c.as_str.ensures.value) at said)))
