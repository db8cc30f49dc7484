use Rattle.std.proofs.Common.{refl, Ok, Err}
use Rattle.broker_core.specs.declared.answers.Refused.TheVariants as refusals
use Rattle.peer_link.specs.declared.ends.ReadEnd.TheVariants as ends
use Rattle.peer_link.proofs.StepsRefused.{submitted, saw-by, refusal-is}
use Rattle.peer_link.proofs.BadSizeEnds.{ended-if-bad}
use Rattle.peer_link.proofs.step.submit_step.Goals as goal

pub returns-in-Ok-clause-saw : goal.returns-in-Ok-clause-saw
returns-in-Ok-clause-saw g c =
    saw-by c.args.hub.now.limits c.args.pass.now c.submit_gated.new.pass c.args.step
    (Ok c.in-Ok.field-0) c.in-Ok.ensures.legal

pub returns-in-Ok-clause-made : goal.returns-in-Ok-clause-made
returns-in-Ok-clause-made g c =
    submitted c.args.hub.now.limits c.args.pass.now c.submit_gated.new.pass c.args.step (Ok c.in-Ok.field-0)
    c.requires.step c.in-Ok.ensures.pass c.in-Ok.ensures.joined c.in-Ok.ensures.legal

pub returns-in-Ok-clause-ended : goal.returns-in-Ok-clause-ended
returns-in-Ok-clause-ended g c =
    ended-if-bad c.args.hub.now.limits c.args.pass.now c.submit_gated.new.pass c.args.step c.in-Ok.field-0
    c.in-Ok.ensures.pass c.in-Ok.ensures.legal

pub returns-in-Err-Ended-clause-saw : goal.returns-in-Err-Ended-clause-saw
returns-in-Err-Ended-clause-saw g c =
    saw-by c.args.hub.now.limits c.args.pass.now c.submit_gated.new.pass c.args.step
    (Err (refusals.Ended c.in-Err-Ended.cause))
    (rw c.in-Err-Ended.field-0-is at c.in-Err-Ended.ensures.legal)

pub returns-in-Err-Ended-clause-made : goal.returns-in-Err-Ended-clause-made
returns-in-Err-Ended-clause-made g c =
    submitted c.args.hub.now.limits c.args.pass.now c.submit_gated.new.pass c.args.step
    (Err (refusals.Ended c.in-Err-Ended.cause))
    c.requires.step c.in-Err-Ended.ensures.pass (rw c.in-Err-Ended.field-0-is at c.in-Err-Ended.ensures.joined)
    (rw c.in-Err-Ended.field-0-is at c.in-Err-Ended.ensures.legal)

pub returns-in-Err-Ended-clause-refusal : goal.returns-in-Err-Ended-clause-refusal
returns-in-Err-Ended-clause-refusal g c =
    refusal-is c.args.hub.now.limits c.args.pass.now c.submit_gated.new.pass c.args.step
    (refusals.Ended c.in-Err-Ended.cause) (ends.Ended c.in-Err-Ended.cause) refl
    (rw c.in-Err-Ended.field-0-is at c.in-Err-Ended.ensures.joined)
    (rw c.in-Err-Ended.field-0-is at c.in-Err-Ended.ensures.legal)

pub returns-in-Err-JournalFull-clause-saw : goal.returns-in-Err-JournalFull-clause-saw
returns-in-Err-JournalFull-clause-saw g c =
    saw-by c.args.hub.now.limits c.args.pass.now c.submit_gated.new.pass c.args.step
    (Err (refusals.JournalFull c.in-Err-JournalFull.kept))
    (rw c.in-Err-JournalFull.field-0-is at c.in-Err-JournalFull.ensures.legal)

pub returns-in-Err-JournalFull-clause-made : goal.returns-in-Err-JournalFull-clause-made
returns-in-Err-JournalFull-clause-made g c =
    submitted c.args.hub.now.limits c.args.pass.now c.submit_gated.new.pass c.args.step
    (Err (refusals.JournalFull c.in-Err-JournalFull.kept))
    c.requires.step c.in-Err-JournalFull.ensures.pass
    (rw c.in-Err-JournalFull.field-0-is at c.in-Err-JournalFull.ensures.joined)
    (rw c.in-Err-JournalFull.field-0-is at c.in-Err-JournalFull.ensures.legal)

pub returns-in-Err-JournalFull-clause-refusal : goal.returns-in-Err-JournalFull-clause-refusal
returns-in-Err-JournalFull-clause-refusal g c =
    refusal-is c.args.hub.now.limits c.args.pass.now c.submit_gated.new.pass c.args.step
    (refusals.JournalFull c.in-Err-JournalFull.kept) (ends.JournalFull c.in-Err-JournalFull.kept) refl
    (rw c.in-Err-JournalFull.field-0-is at c.in-Err-JournalFull.ensures.joined)
    (rw c.in-Err-JournalFull.field-0-is at c.in-Err-JournalFull.ensures.legal)

pub returns-in-Err-NoMemory-clause-saw : goal.returns-in-Err-NoMemory-clause-saw
returns-in-Err-NoMemory-clause-saw g c =
    saw-by c.args.hub.now.limits c.args.pass.now c.submit_gated.new.pass c.args.step (Err refusals.NoMemory)
    (rw c.in-Err-NoMemory.field-0-is at c.in-Err-NoMemory.ensures.legal)

pub returns-in-Err-NoMemory-clause-made : goal.returns-in-Err-NoMemory-clause-made
returns-in-Err-NoMemory-clause-made g c =
    submitted c.args.hub.now.limits c.args.pass.now c.submit_gated.new.pass c.args.step (Err refusals.NoMemory)
    c.requires.step c.in-Err-NoMemory.ensures.pass (rw c.in-Err-NoMemory.field-0-is at c.in-Err-NoMemory.ensures.joined)
    (rw c.in-Err-NoMemory.field-0-is at c.in-Err-NoMemory.ensures.legal)

pub returns-in-Err-NoMemory-clause-refusal : goal.returns-in-Err-NoMemory-clause-refusal
returns-in-Err-NoMemory-clause-refusal g c =
    refusal-is c.args.hub.now.limits c.args.pass.now c.submit_gated.new.pass c.args.step refusals.NoMemory
    ends.NoMemory refl
    (rw c.in-Err-NoMemory.field-0-is at c.in-Err-NoMemory.ensures.joined)
    (rw c.in-Err-NoMemory.field-0-is at c.in-Err-NoMemory.ensures.legal)
