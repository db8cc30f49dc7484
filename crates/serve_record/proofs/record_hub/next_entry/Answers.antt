use Rattle.std.proofs.Common.{rules, Some, None, refl}
use Rattle.serve_record.specs.declared.record.RecordStop.TheVariants as stops
use Rattle.serve_record.proofs.RecordGrows.{gains_none, gains_cut, gains_out}
use Rattle.serve_record.proofs.HandedWritten.{no_step_of, no_step_on, hands_out, hands_on, handed_after}
use Rattle.serve_record.proofs.record_hub.next_entry.Goals as goal

pub returns-in-Some-clause-none_made : goal.returns-in-Some-clause-none_made
returns-in-Some-clause-none_made g c =
    no_step_of c.args.hub.now.limits c.args.pass.now c.hand_out.new.pass (Some c.in-Some.next) c.in-Some.ensures.pass
    c.in-Some.ensures.legal

pub returns-in-Some-clause-next : goal.returns-in-Some-clause-next
returns-in-Some-clause-next g c =
    hands_out c.args.hub.now.limits c.args.pass.now c.hand_out.new.pass (Some c.in-Some.next) c.in-Some.ensures.pass
    c.in-Some.ensures.legal

pub returns-in-Some-clause-gains : goal.returns-in-Some-clause-gains
returns-in-Some-clause-gains g c =
    gains_none g.K.Sink.held g.K.Sink.fault_count stops.WriteFault c.args.output.now c.args.text.now c.args.text.now
    (Some c.in-Some.next) refl

pub returns-in_err-write-clause-gains : goal.returns-in_err-write-clause-gains
returns-in_err-write-clause-gains g c =
    gains_cut g.K.Sink.held g.K.Sink.fault_count stops.WriteFault c.args.output.now c.write.new.output _ _ _
    (search rules)
    c.in_err-write.ensures.front c.write.ensures.never_falls (search rules) (search rules)

pub returns-clause-none_made : goal.returns-clause-none_made
returns-clause-none_made g c =
    let limits = c.args.hub.now.limits in
    no_step_on c.args.pass.now.seat c.hand_out.new.pass.seat c.wait_hand_out.new.pass.seat
    (no_step_of limits c.args.pass.now c.hand_out.new.pass c.hand_out.result c.hand_out.ensures.pass
    c.hand_out.ensures.legal)
    (no_step_of limits c.hand_out.new.pass c.wait_hand_out.new.pass c.wait_hand_out.result c.wait_hand_out.ensures.pass
    c.wait_hand_out.ensures.legal)

pub returns-clause-next : goal.returns-clause-next
returns-clause-next g c =
    let limits = c.args.hub.now.limits in
    hands_on limits c.args.pass.now c.hand_out.new.pass c.wait_hand_out.new.pass c.wait_hand_out.result
    (handed_after c.args.pass.now c.hand_out.new.pass None c.in_default.ensures.pass)
    (hands_out limits c.hand_out.new.pass c.wait_hand_out.new.pass c.wait_hand_out.result c.wait_hand_out.ensures.pass
    c.wait_hand_out.ensures.legal)

pub returns-clause-gains : goal.returns-clause-gains
returns-clause-gains g c =
    let e = c.in_ok-write.ensures in
    gains_out g.K.Sink.held g.K.Sink.fault_count stops.WriteFault c.args.output.now c.write.new.output c.args.text.now
    c.write.new.self c.args.text.now _ refl e.whole e.none tt c.write.ensures.never_falls (λ is. absurd (cc)) (search rules)
