use Rattle.std.proofs.Common.{arith, rules}
use Rattle.std.proofs.lemmas.Int.{to_z-of_z}
use mir.Syntax.{w32}
use Rattle.audit_fields.proofs.EventsRead.{reading_is, none_read}
use Rattle.audit_fields.proofs.field_event.read_field.Goals as goal

pub returns-in-Ok-PreeditString-clause-found : goal.returns-in-Ok-PreeditString-clause-found
returns-in-Ok-PreeditString-clause-found c =
    let begin = to_z-of_z w32 c.in-Ok-PreeditString.begin (search rules) in
    let end = to_z-of_z w32 c.in-Ok-PreeditString.end (search rules) in
    rw (begin, end)
    (reading_is c.args.opcode c.args.body.now _ (rw c.in-Ok-PreeditString.field-0-is at c.in-Ok-PreeditString.ensures))

pub returns-in-Ok-CommitString-clause-found : goal.returns-in-Ok-CommitString-clause-found
returns-in-Ok-CommitString-clause-found c =
    reading_is c.args.opcode c.args.body.now _ (rw c.in-Ok-CommitString.field-0-is at c.in-Ok-CommitString.ensures)

pub returns-in-Ok-DeleteSurroundingText-clause-found :
    goal.returns-in-Ok-DeleteSurroundingText-clause-found
returns-in-Ok-DeleteSurroundingText-clause-found c =
    reading_is c.args.opcode c.args.body.now _
    (rw c.in-Ok-DeleteSurroundingText.field-0-is at c.in-Ok-DeleteSurroundingText.ensures)

pub returns-in-Ok-TextInputDone-clause-found : goal.returns-in-Ok-TextInputDone-clause-found
returns-in-Ok-TextInputDone-clause-found c =
    reading_is c.args.opcode c.args.body.now _ (rw c.in-Ok-TextInputDone.field-0-is at c.in-Ok-TextInputDone.ensures)

pub returns-in-Err-clause-none : goal.returns-in-Err-clause-none
returns-in-Err-clause-none c = λ m is.
    none_read c.args.opcode c.args.body.now _ m (λ i. omega (arith, c.type_inv.body i)) c.in-Err.ensures is
