use Rattle.broker_core.specs.declared.answers.Refused.TheVariants as refusals
use Rattle.hub_calls.proofs.StepsRefused.{ordered, not_ordered, order_full}
use Rattle.hub_calls.proofs.order.order_step.Goals as goal

pub returns-in-Ok-clause-orders : goal.returns-in-Ok-clause-orders
returns-in-Ok-clause-orders g c =
    ordered c.args.hub.now.limits c.args.pass.now c.order.new.pass c.args.step.now c.in-Ok.field-0 c.in-Ok.ensures.pass
    c.in-Ok.ensures.legal

pub returns-in-Err-JournalFull-clause-orders : goal.returns-in-Err-JournalFull-clause-orders
returns-in-Err-JournalFull-clause-orders g c =
    let legal = rw c.in-Err-JournalFull.field-0-is at c.in-Err-JournalFull.ensures.legal in (
      not_ordered c.args.hub.now.limits c.args.pass.now c.order.new.pass c.args.step.now
          (refusals.JournalFull c.in-Err-JournalFull.kept) c.in-Err-JournalFull.ensures.pass legal,
      order_full c.args.hub.now.limits c.args.pass.now c.order.new.pass c.args.step.now c.in-Err-JournalFull.kept legal,
    )

pub returns-in-Err-NoMemory-clause-orders : goal.returns-in-Err-NoMemory-clause-orders
returns-in-Err-NoMemory-clause-orders g c =
    not_ordered c.args.hub.now.limits c.args.pass.now c.order.new.pass c.args.step.now refusals.NoMemory
    c.in-Err-NoMemory.ensures.pass (rw c.in-Err-NoMemory.field-0-is at c.in-Err-NoMemory.ensures.legal)
