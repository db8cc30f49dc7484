use Rattle.std.proofs.Common.{sym, subst, ◌∙◌}
use Rattle.std.specs.Prelude.{string_bytes}
use Rattle.broker_core.specs.Reached.{Reached}
use Rattle.broker_core.specs.Watched.{watched_since}
use Rattle.lines_transcript.specs.Printed.{MayPrint, blank}
use Rattle.lines_transcript.proofs.PrintedSteps.{printing}
use Rattle.lines_transcript.proofs.ReachedPrintings.{closed_whole, open_front, closed_front}
use Rattle.lines_transcript.proofs.printer.Printer.close.Goals as goal

pub returns-then-self-clause-front : goal.returns-then-self-clause-front
returns-then-self-clause-front c = λ capacity k journal reached. open_front capacity k journal c.args.self.now reached

pub returns-clause-text : goal.returns-clause-text
returns-clause-text c = λ capacity k journal reached found.
    let p = printing (string_bytes c.self.inside.text) (string_bytes c.self.inside.shell) c.self.inside.is_short in
    closed_whole capacity k journal p (string_bytes c.move_behind.new.text) c.move_behind.result
    (subst (Reached MayPrint blank (watched_since capacity k journal)) (sym c.self.view_is) reached)
    c.if-self.false (sym c.is_err-self-inside.ensures.value ∙ found) c.move_behind.ensures.text

pub returns-clause-front : goal.returns-clause-front
returns-clause-front c = λ capacity k journal reached.
    let p = printing (string_bytes c.self.inside.text) (string_bytes c.self.inside.shell) c.self.inside.is_short in
    closed_front capacity k journal p (string_bytes c.move_behind.new.text) c.move_behind.result
    (subst (Reached MayPrint blank (watched_since capacity k journal)) (sym c.self.view_is) reached)
    c.if-self.false c.move_behind.ensures.text c.move_behind.ensures.err
