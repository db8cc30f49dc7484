use Rattle.std.proofs.Common.{◌≡◌, ℕ}
use Rattle.wl_proto.specs.Rows.{Message, request_message}
use Rattle.broker_model.specs.Requests.{arguments_of, new_of}
use Rattle.broker_model.specs.Refusals as refusals
use Rattle.broker_model.specs.Resolve.{label_at}
use Rattle.broker_wire.proofs.MeaningBySteps.{says_popup, says_keymap}
use Rattle.broker_wire.proofs.meaning.request_fault.Goals as goal

pub returns : goal.returns
returns c = λ past t s q.
    let p : ℕ = c.args.sender.now.label in
    let at : ℕ → ℕ = label_at past p in
    let m : Message = request_message c.args.request.now in
    let argument : c.argument_fault-argument.result
    ≡ refusals.argument_fault past p (arguments_of m.interface m.opcode m.values) =
    c.argument_fault-argument.ensures past p t in
    let new : c.new_fault-new.result ≡ refusals.new_fault past p (new_of m.interface m.opcode m.values) =
    rw c.new_object.ensures at (c.new_fault-new.ensures past p t) in
    let own : c.own_fault-own.result
    ≡ refusals.own_fault past c.args.object c.args.sender.now.role at m.interface m.opcode m.values =
    c.own_fault-own.ensures past c.args.object at
    (says_popup past at c.args.request.now c.args.surface c.has_popup.result q (c.has_popup.ensures past.acts s))
    (says_keymap past c.args.object c.args.request.now c.has_keymap.result (c.has_keymap.ensures past.acts s)) in
    rw (← argument, ← new, ← own) (let a = c.or.ensures in let b = c.or-2.ensures in cc)
