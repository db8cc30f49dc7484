use Rattle.std.proofs.Common.{sym, ◌∙◌}
use Rattle.audit_fields.proofs.StreamsCompared.{front_none}
use Rattle.audit_fields.proofs.FieldMessageFirst.{before_none, before_next, before_all, before_field_message}
use Rattle.audit_fields.proofs.compare.before_field.Goals as goal

pub returns-then-is_field_opcode-clause-is : goal.returns-then-is_field_opcode-clause-is
returns-then-is_field_opcode-clause-is c =
    before_field_message c.args.told.now c.split_at.result.1.now c.in-Whole.raw.body.now c.messages.at
    c.in-Whole.raw.id
    c.in-Whole.raw.opcode c.in-Whole.size c.messages.invariant c.split_at.ensures.back c.in-Whole.ensures.front
    c.in-Whole.ensures.messages.0 (sym c.is_field_opcode.ensures ∙ c.if-is_field_opcode.true)

pub messages-preserved : goal.messages-preserved
messages-preserved c =
    before_next c.args.told.now c.split_at.result.1.now c.in-Whole.raw.body.now c.messages.at c.in-Whole.raw.id
    c.in-Whole.raw.opcode c.in-Whole.size c.messages.invariant c.split_at.ensures.back c.in-Whole.ensures.front
    c.in-Whole.ensures.messages.0 (sym c.is_field_opcode.ensures ∙ c.if-is_field_opcode.false)

pub returns-in_default-clause-is : goal.returns-in_default-clause-is
returns-in_default-clause-is c =
    before_all c.args.told.now c.split_at.result.1.now c.messages.at c.messages.invariant c.split_at.ensures.back
    (before_none c.split_at.result.1.now
    (front_none c.split_at.result.1.now _ c.in_default.not-Whole c.front_of.ensures.messages))
