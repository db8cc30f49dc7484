use Rattle.trial_run.proofs.StepsTaken.{join_went, join_many, join_full}
use Rattle.trial_run.proofs.steps.join.Goals as goal

pub returns-in-Ok : goal.returns-in-Ok
returns-in-Ok c = let told = c.in-Ok.ensures in join_went c.args.role _ _ _ told.refused told.ok

pub returns-in-Err-TooManyPeers : goal.returns-in-Err-TooManyPeers
returns-in-Err-TooManyPeers c =
    let told = c.in-Err-TooManyPeers.ensures in
    join_many _ c.args.role _ _ _ _ c.in-Err-TooManyPeers.field-0-is told.refused told.accepted told.err

pub returns-in-Err-JournalFull : goal.returns-in-Err-JournalFull
returns-in-Err-JournalFull c =
    let told = c.in-Err-JournalFull.ensures in
    join_full _ c.args.role _ _ _ c.in-Err-JournalFull.field-0-is told.refused told.accepted
