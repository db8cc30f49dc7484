use Rattle.broker_core.specs.declared.answers.Took.TheVariants as took
use Rattle.trial_run.proofs.StepsTaken.{take_went, take_full, take_there}
use Rattle.trial_run.proofs.steps.take.Goals as goal

pub returns-in-Bytes-clause-count : goal.returns-in-Bytes-clause-count
returns-in-Bytes-clause-count c =
    let told = c.in-Bytes.ensures in
    (take_went c.args.number _ _ _ _ _ _ _ _ c.requires.some c.requires.room told.refused told.bytes told.settled).count

pub returns-in-Bytes-clause-bytes : goal.returns-in-Bytes-clause-bytes
returns-in-Bytes-clause-bytes c =
    let told = c.in-Bytes.ensures in
    (take_went c.args.number _ _ _ _ _ _ _ _ c.requires.some c.requires.room told.refused told.bytes told.settled).bytes

pub returns-in-Bytes-clause-took : goal.returns-in-Bytes-clause-took
returns-in-Bytes-clause-took c =
    let told = c.in-Bytes.ensures in
    (take_went c.args.number _ _ _ _ _ _ _ _ c.requires.some c.requires.room told.refused told.bytes told.settled).went

pub returns-in-JournalFull-clause-stop : goal.returns-in-JournalFull-clause-stop
returns-in-JournalFull-clause-stop c =
    let told = c.in-JournalFull.ensures in
    take_full c.args.number _ _ c.requires.some told.refused told.accepted

pub unreachable-requires : goal.unreachable-requires
unreachable-requires c =
    let told = c.in-NoPeer.ensures in
    take_there c.args.number c.args.shared.now took.NoPeer tt c.requires.some told.refused told.accepted

pub unreachable-requires-in-Closed : goal.unreachable-requires-in-Closed
unreachable-requires-in-Closed c =
    let told = c.in-Closed.ensures in
    take_there c.args.number c.args.shared.now took.Closed tt c.requires.some told.refused told.accepted

pub unreachable-requires-in-Empty : goal.unreachable-requires-in-Empty
unreachable-requires-in-Empty c =
    let told = c.in-Empty.ensures in
    take_there c.args.number c.args.shared.now took.Empty tt c.requires.some told.refused told.accepted
