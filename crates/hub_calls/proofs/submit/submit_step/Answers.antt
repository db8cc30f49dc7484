use Rattle.std.proofs.Common.{Ok, Err}
use Rattle.broker_core.specs.declared.answers.Refused.TheVariants as refusals
use Rattle.hub_calls.proofs.EndsStay.{never_made}
use Rattle.hub_calls.proofs.StepsRefused.{submitted, saw_by}
use Rattle.hub_calls.proofs.submit.submit_step.Goals as goal

pub returns-in-Ok-clause-saw : goal.returns-in-Ok-clause-saw
returns-in-Ok-clause-saw g c =
    saw_by c.args.hub.now.limits c.args.pass.now c.submit.new.pass c.args.step.now
    (Ok c.in-Ok.field-0) c.in-Ok.ensures.legal

pub returns-in-Ok-clause-made : goal.returns-in-Ok-clause-made
returns-in-Ok-clause-made g c =
    submitted c.args.hub.now.limits c.args.pass.now c.submit.new.pass c.args.step.now (Ok c.in-Ok.field-0)
    c.in-Ok.ensures.pass c.in-Ok.ensures.joined c.in-Ok.ensures.legal

pub returns-in-Ok-clause-ended : goal.returns-in-Ok-clause-ended
returns-in-Ok-clause-ended g c = λ cause h e.
    never_made c.args.hub.now.limits c.args.pass.now c.submit.new.pass c.args.step.now (Ok c.in-Ok.field-0) cause
    c.in-Ok.ensures.legal h e

pub returns-in-Err-Ended-clause-saw : goal.returns-in-Err-Ended-clause-saw
returns-in-Err-Ended-clause-saw g c =
    saw_by c.args.hub.now.limits c.args.pass.now c.submit.new.pass c.args.step.now
    (Err (refusals.Ended c.in-Err-Ended.cause))
    (rw c.in-Err-Ended.field-0-is at c.in-Err-Ended.ensures.legal)

pub returns-in-Err-Ended-clause-made : goal.returns-in-Err-Ended-clause-made
returns-in-Err-Ended-clause-made g c =
    submitted c.args.hub.now.limits c.args.pass.now c.submit.new.pass c.args.step.now
    (Err (refusals.Ended c.in-Err-Ended.cause))
    c.in-Err-Ended.ensures.pass (rw c.in-Err-Ended.field-0-is at c.in-Err-Ended.ensures.joined)
    (rw c.in-Err-Ended.field-0-is at c.in-Err-Ended.ensures.legal)

pub returns-in-Err-JournalFull-clause-saw : goal.returns-in-Err-JournalFull-clause-saw
returns-in-Err-JournalFull-clause-saw g c =
    saw_by c.args.hub.now.limits c.args.pass.now c.submit.new.pass c.args.step.now
    (Err (refusals.JournalFull c.in-Err-JournalFull.kept))
    (rw c.in-Err-JournalFull.field-0-is at c.in-Err-JournalFull.ensures.legal)

pub returns-in-Err-JournalFull-clause-made : goal.returns-in-Err-JournalFull-clause-made
returns-in-Err-JournalFull-clause-made g c =
    submitted c.args.hub.now.limits c.args.pass.now c.submit.new.pass c.args.step.now
    (Err (refusals.JournalFull c.in-Err-JournalFull.kept))
    c.in-Err-JournalFull.ensures.pass (rw c.in-Err-JournalFull.field-0-is at c.in-Err-JournalFull.ensures.joined)
    (rw c.in-Err-JournalFull.field-0-is at c.in-Err-JournalFull.ensures.legal)

pub returns-in-Err-NoMemory-clause-saw : goal.returns-in-Err-NoMemory-clause-saw
returns-in-Err-NoMemory-clause-saw g c =
    saw_by c.args.hub.now.limits c.args.pass.now c.submit.new.pass c.args.step.now (Err refusals.NoMemory)
    (rw c.in-Err-NoMemory.field-0-is at c.in-Err-NoMemory.ensures.legal)

pub returns-in-Err-NoMemory-clause-made : goal.returns-in-Err-NoMemory-clause-made
returns-in-Err-NoMemory-clause-made g c =
    submitted c.args.hub.now.limits c.args.pass.now c.submit.new.pass c.args.step.now (Err refusals.NoMemory)
    c.in-Err-NoMemory.ensures.pass (rw c.in-Err-NoMemory.field-0-is at c.in-Err-NoMemory.ensures.joined)
    (rw c.in-Err-NoMemory.field-0-is at c.in-Err-NoMemory.ensures.legal)
