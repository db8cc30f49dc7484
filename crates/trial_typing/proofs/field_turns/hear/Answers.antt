use Rattle.std.proofs.Common.{Err, ap}
use Rattle.trial_typing.proofs.FieldHears.{all_heard, went_wrong, heard_some}
use Rattle.trial_typing.proofs.field_turns.hear.Goals as goal

pub returns-in-Ok-clause-ok : goal.returns-in-Ok-clause-ok
returns-in-Ok-clause-ok c =
    all_heard c.args.client.now c.hear_field.new.client c.args.log.now c.hear_field.new.log c.args.piece.now
    c.in-Ok.ensures.again c.in-Ok.ensures.ok

pub returns-in-Err-BadEvent-clause-ok : goal.returns-in-Err-BadEvent-clause-ok
returns-in-Err-BadEvent-clause-ok c =
    went_wrong c.args.client.now c.hear_field.new.client c.args.log.now c.hear_field.new.log c.args.piece.now
    c.in-Err-BadEvent.ensures.again
    (c.in-Err-BadEvent.ensures.bad (ap (λ f. Err f) c.in-Err-BadEvent.field-0-is))

pub returns-in-Err-NoMemory-clause-err : goal.returns-in-Err-NoMemory-clause-err
returns-in-Err-NoMemory-clause-err c =
    heard_some c.args.client.now c.hear_field.new.client c.args.log.now c.hear_field.new.log c.args.piece.now
    c.in-Err-NoMemory.ensures.again
    (c.in-Err-NoMemory.ensures.no_memory (ap (λ f. Err f) c.in-Err-NoMemory.field-0-is))
