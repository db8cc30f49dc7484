use Rattle.broker_core.specs.declared.answers.Refused.TheVariants as refusals
use Rattle.peer_link.specs.declared.ends.ShellEnd.TheVariants as ends
use Rattle.peer_link.proofs.AnswersGrow.{ordered, not-taken, not-taken-full}
use Rattle.peer_link.proofs.order.give_order.Goals as goal

pub returns-in-Ok-clause-ordered : goal.returns-in-Ok-clause-ordered
returns-in-Ok-clause-ordered g c =
    ordered c.args.hub.now.limits c.args.pass.now c.order.new.pass c.args.step.now c.in-Ok.applied c.in-Ok.ensures.pass
    c.in-Ok.ensures.legal

pub returns-in-Err-JournalFull-clause-refused : goal.returns-in-Err-JournalFull-clause-refused
returns-in-Err-JournalFull-clause-refused g c =
    not-taken-full c.args.hub.now.limits c.args.pass.now c.order.new.pass c.args.step.now c.in-Err-JournalFull.kept
    c.in-Err-JournalFull.ensures.pass (rw c.in-Err-JournalFull.field-0-is at c.in-Err-JournalFull.ensures.legal)

pub returns-in-Err-NoMemory-clause-refused : goal.returns-in-Err-NoMemory-clause-refused
returns-in-Err-NoMemory-clause-refused g c =
    not-taken c.args.hub.now.limits c.args.pass.now c.order.new.pass c.args.step.now refusals.NoMemory ends.NoMemory
    c.in-Err-NoMemory.ensures.pass (rw c.in-Err-NoMemory.field-0-is at c.in-Err-NoMemory.ensures.legal) tt
