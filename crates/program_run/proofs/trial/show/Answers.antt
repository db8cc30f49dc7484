use Rattle.std.proofs.Common.{refl, string_bytes}
use Rattle.trial_run.specs.Trial.{over, bad_line, journal_full}
use Rattle.program_run.specs.declared.last_line.LastLine.TheVariants as last
use Rattle.program_run.proofs.ScriptShown.{shown_is}
use Rattle.program_run.proofs.trial.show.Goals as goal

pub returns-in-Ok : goal.returns-in-Ok
returns-in-Ok c =
    shown_is c.args.cut c.args.script.now (string_bytes c.in-Ok.text) over last.Over c.in-Ok.ensures refl

pub returns-in_ok-last-in-Err-BadLine : goal.returns-in_ok-last-in-Err-BadLine
returns-in_ok-last-in-Err-BadLine c =
    let h = rw c.in-Err-BadLine.field-0-is at c.in-Err-BadLine.ensures in
    shown_is c.args.cut c.args.script.now (string_bytes c.in-Err-BadLine.text) (bad_line c.in-Err-BadLine.number)
    c.in_ok-last-in-Err-BadLine.last h c.in_ok-last-in-Err-BadLine.ensures

pub returns-in-Err-JournalFull : goal.returns-in-Err-JournalFull
returns-in-Err-JournalFull c =
    let h = rw c.in-Err-JournalFull.field-0-is at c.in-Err-JournalFull.ensures in
    shown_is c.args.cut c.args.script.now (string_bytes c.in-Err-JournalFull.text)
    (journal_full c.in-Err-JournalFull.kept)
    (last.Full c.in-Err-JournalFull.kept.entries) h refl
