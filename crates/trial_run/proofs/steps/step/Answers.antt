use Rattle.trial_run.proofs.StepsTaken.{step_went, step_why, step_full}
use Rattle.trial_run.proofs.steps.step.Goals as goal

pub returns-in-Ok : goal.returns-in-Ok
returns-in-Ok c =
    let told = c.in-Ok.ensures in
    step_went _ _ c.args.step.now _ c.requires.said c.requires.there told.refused told.ok

pub returns-in-Err-JournalFull : goal.returns-in-Err-JournalFull
returns-in-Err-JournalFull c =
    let told = c.in-Err-JournalFull.ensures in
    step_full c.args.shared.now c.args.step.now c.in-Err-JournalFull.field-0 _ c.in-Err-JournalFull.field-0-is
    (step_why _ c.args.shared.now c.args.step.now c.in-Err-JournalFull.field-0 c.requires.said c.requires.there
    told.refused told.accepted)
