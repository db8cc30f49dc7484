use Rattle.std.proofs.Common.{sym, subst}
use Rattle.lines_transcript.specs.Printing.{IsReadAgain}
use Rattle.lines_transcript.proofs.PrintedStepsHold.{printed_clean}
use Rattle.lines_transcript.proofs.StampedSteps.{printed_again}
use Rattle.session_text.specs.Steps.{step_line}
use Rattle.lines_transcript.proofs.step_line.print_step.Goals as goal

pub finished-requires : goal.finished-requires
finished-requires c = printed_clean _ (step_line c.args.step.now) c.in_ok-line.ensures

pub returns-clause-read : goal.returns-clause-read
returns-clause-read c =
    subst (IsReadAgain c.args.step.now) (sym c.finished.ensures) (printed_again c.args.step.now _ c.in_ok-line.ensures)
