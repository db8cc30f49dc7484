use Rattle.std.proofs.Common.{Result, Ok, Err, OnOk}
use Rattle.trial_client_logs.proofs.FieldsWritten.{field_heard_some, field_heard_all, field_heard_wrong}
use Rattle.trial_client_logs.proofs.field_hearing.hear_field.Goals as goal

pub returns-then-lacks-clause-no_memory : goal.returns-then-lacks-clause-no_memory
returns-then-lacks-clause-no_memory c e =
    let h = c.receive_heard-received.ensures.heard in
    field_heard_some c.args.client.now c.receive_heard-received.new.self c.args.piece.now h.0 _
    c.receive_heard-received.new.hearer c.args.log.now c.replace.ensures.value h.1

pub returns-clause-no_memory : goal.returns-clause-no_memory
returns-clause-no_memory c e =
    let h = c.receive_heard-received.ensures.heard in
    field_heard_some c.args.client.now c.receive_heard-received.new.self c.args.piece.now h.0 _
    c.receive_heard-received.new.hearer c.args.log.now c.replace.ensures.value h.1

both : {T E : Type 0} (r : Result T E) (P Q R : Type 0) → (P → Q → R) → OnOk r P → OnOk r Q → OnOk r R
both (Ok x) P Q R f p q = f p q
both (Err e) P Q R f p q = tt

pub returns-clause-ok : goal.returns-clause-ok
returns-clause-ok c =
    both c.receive_heard-received.result _ _ _
    (λ ok h.
    field_heard_all c.args.client.now c.receive_heard-received.new.self c.args.piece.now _
    c.receive_heard-received.new.hearer c.args.log.now c.replace.ensures.value c.if-lacks.false ok h)
    c.receive_heard-received.ensures.ok c.receive_heard-received.ensures.heard_all

pub returns-clause-bad : goal.returns-clause-bad
returns-clause-bad c e good =
    field_heard_wrong c.args.client.now c.receive_heard-received.new.self c.args.piece.now _
    c.receive_heard-received.new.hearer c.args.log.now c.replace.ensures.value c.if-lacks.false
    (c.receive_heard-received.ensures.bad e good) (c.receive_heard-received.ensures.heard_wrong e good)
