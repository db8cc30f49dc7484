use Rattle.audit_fields.proofs.StreamsCompared.{begins, goes_on, unlike, counted_one, counted_none}
use Rattle.audit_fields.proofs.compare.compare.Goals.{then-raw-eq-DONE, else-raw-eq-DONE}
use Rattle.audit_fields.proofs.compare.compare.Goals as goal

pub messages-init : goal.messages-init
messages-init c = begins c.args.told.now c.args.sent.now

pub returns-in_default-clause-unlike : goal.returns-in_default-clause-unlike
returns-in_default-clause-unlike c =
    unlike c.args.told.now c.args.sent.now c.split_at.result.1.now c.split_at-in-Whole.result.1.now
    c.in-Whole.raw.body.now c.messages.gone
    c.messages.at c.messages.dones c.in-Whole.raw.id c.in-Whole.raw.opcode c.in-Whole.size c.messages.invariant
    c.split_at.ensures.back c.split_at-in-Whole.ensures.back c.in-Whole.ensures.front c.in_default.ensures.none

pub messages-preserved : goal.messages-preserved
messages-preserved c =
    goes_on c.args.told.now c.args.sent.now c.split_at.result.1.now c.split_at-in-Whole.result.1.now
    c.in-Whole.raw.body.now c.messages.gone
    c.messages.at c.messages.dones c.in-Some.used c.in-Whole.raw.id c.in-Whole.raw.opcode c.in-Whole.size
    c.if-raw-eq-DONE.dones
    c.messages.invariant c.split_at.ensures.back c.split_at-in-Whole.ensures.back c.in-Whole.ensures.front
    c.in-Some.ensures.some c.in-Some.ensures.well
    (elim c.if-raw-eq-DONE.branch [
      | then-raw-eq-DONE w ↦ counted_one c.messages.dones c.in-Whole.raw.opcode _ w.if-raw-eq-DONE.true w.dones-is
      | else-raw-eq-DONE w ↦ counted_none c.messages.dones c.in-Whole.raw.opcode _ w.if-raw-eq-DONE.false w.dones-is
    ])
