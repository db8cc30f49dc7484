use Rattle.std.proofs.Common.{◌+◌, sym, ◌∙◌, arith, refl, true, false}
use Rattle.program_gen.proofs.EventsCounted.{begins, goes_on, ended, front_none}
use Rattle.program_gen.proofs.events.events_in.Goals as goal

pub messages-init : goal.messages-init
messages-init c = begins c.args.object c.args.opcode c.args.bytes.now

pub returns : goal.returns
returns c =
    ended c.args.object c.args.opcode c.args.bytes.now c.messages.count c.messages.rest.now c.messages.invariant
    (front_none c.messages.rest.now _ c.in_default.not-Whole c.front_of.ensures.messages)

pub messages-preserved-then-is_event : goal.messages-preserved-then-is_event
messages-preserved-then-is_event c =
    goes_on c.args.object c.args.opcode c.args.bytes.now c.messages.count (c.messages.count + 1) c.messages.rest.now
    c.split_at.result.1.now c.in-Whole.raw.id c.in-Whole.raw.opcode c.in-Whole.raw.body.now c.in-Whole.used true
    c.messages.invariant c.in-Whole.ensures.front c.in-Whole.ensures.messages.0 c.split_at.ensures.back
    (sym c.is_event.ensures ∙ c.if-is_event.true) refl

pub messages-preserved : goal.messages-preserved
messages-preserved c =
    goes_on c.args.object c.args.opcode c.args.bytes.now c.messages.count c.messages.count c.messages.rest.now
    c.split_at.result.1.now c.in-Whole.raw.id c.in-Whole.raw.opcode c.in-Whole.raw.body.now c.in-Whole.used false
    c.messages.invariant c.in-Whole.ensures.front c.in-Whole.ensures.messages.0 c.split_at.ensures.back
    (sym c.is_event.ensures ∙ c.if-is_event.false) (omega arith)
