use Rattle.std.proofs.Common.{◌≡◌, ℕ, ap, sym, ◌∙◌, Ok}
use Rattle.wl_proto.specs.Rows.{Message, request_message}
use Rattle.wl_proto.specs.Reading.{request_reading}
use Rattle.broker_model.specs.Ids.{Joined, object_at}
use Rattle.broker_wire.specs.Meant.{meant}
use Rattle.broker_wire.proofs.MeaningBySteps.{takes_none, message_read}
use Rattle.broker_wire.proofs.meaning.meaning_of.Goals as goal

pub returns-in_default-clause-takes : goal.returns-in_default-clause-takes
returns-in_default-clause-takes c = λ past t.
    ap (λ m. m.takes_token) c.taking.ensures
    ∙ takes_none (object_at past c.args.sender.now.label c.args.id) c.args.opcode
    (sym c.in_default.is ∙ c.find.ensures.now ∙ t.by_id c.args.id)

pub returns-in_ok-meaning-in-Ok-clause-means : goal.returns-in_ok-meaning-in-Ok-clause-means
returns-in_ok-meaning-in-Ok-clause-means c = λ past n t s w.
    let p : ℕ = c.args.sender.now.label in
    let peer : Joined = record { label = p; role = c.args.sender.now.role } in
    let m : Message = request_message c.in-Ok.request in
    let reads : request_reading c.in-Some.interface c.args.opcode (past.waiting p) c.args.body.now ≡ Ok m =
    ap (λ tokens. request_reading c.in-Some.interface c.args.opcode tokens c.args.body.now) (sym w)
    ∙ c.in-Ok.ensures.gives in
    ap (meant p n) c.taking-in-Ok.ensures
    ∙ (c.in_ok-meaning-in-Ok.ensures past n t s
    ∙ sym (message_read past n peer c.args.opcode c.args.body.now
    (object_at past p c.args.id) c.in-Some.interface c.in-Some.object m
    (sym c.in-Some.is ∙ c.find.ensures.now ∙ t.by_id c.args.id) reads))
