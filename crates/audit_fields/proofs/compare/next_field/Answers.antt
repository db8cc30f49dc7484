use Rattle.std.proofs.Common.{[], refl}
use Rattle.audit_fields.proofs.StreamsCompared.{tells_next, nothing_told, front_none}
use Rattle.audit_fields.proofs.FieldMessageFirst.{before_tells, first_is_field}
use Rattle.audit_fields.proofs.compare.next_field.Goals as goal

pub returns-in-Whole-clause-found : goal.returns-in-Whole-clause-found
returns-in-Whole-clause-found c =
    tells_next c.args.told.now c.split_at.result.1.now c.in-Whole.raw.body.now c.before_field-at.result
    c.in-Whole.raw.id c.in-Whole.raw.opcode
    c.in-Whole.size [] _ (before_tells c.args.told.now c.before_field-at.result c.before_field-at.ensures.is)
    c.split_at.ensures.back c.in-Whole.ensures.front refl

pub returns-in-Whole-clause-field : goal.returns-in-Whole-clause-field
returns-in-Whole-clause-field c =
    first_is_field c.args.told.now c.split_at.result.1.now c.in-Whole.raw.body.now c.before_field-at.result
    c.in-Whole.raw.id
    c.in-Whole.raw.opcode c.in-Whole.size c.before_field-at.ensures.is c.split_at.ensures.back
    c.in-Whole.ensures.front c.in-Whole.ensures.messages.0

pub returns-in_default-clause-none : goal.returns-in_default-clause-none
returns-in_default-clause-none c =
    nothing_told c.args.told.now c.split_at.result.1.now c.before_field-at.result
    (before_tells c.args.told.now c.before_field-at.result c.before_field-at.ensures.is) c.split_at.ensures.back
    (front_none c.split_at.result.1.now _ c.in_default.not-Whole c.front_of.ensures.messages)
