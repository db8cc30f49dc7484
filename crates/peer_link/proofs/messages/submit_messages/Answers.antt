use Rattle.std.proofs.Common.{◌++◌, refl, sym, subst}
use Rattle.std.proofs.lemmas.Result.{err_from_is_err_and}
use Rattle.wl_wire.specs.Streams.{begun}
use Rattle.hub_lock.specs.Passes.{IsOf, PeerPass}
use Rattle.peer_link.proofs.StepsMade.{saw-none, saw-both, pass-both}
use Rattle.peer_link.proofs.MessagesMade.{same-peer, way-begins, way-goes, way-stops, way-ends, way-bad, way-bad-stops, held-first}
use Rattle.peer_link.proofs.messages.submit_messages.Goals as goal

pub messages-init : goal.messages-init
messages-init g c = record {
  pass = refl;
  saw = saw-none c.args.hub.now.limits c.args.pass.now.seat.seen;
  way = way-begins c.args.pass.now.peer (begun c.args.cutter.now ++ c.args.piece.now) c.args.pass.now;
}

pub submit_message-requires-clause-own : goal.submit_message-requires-clause-own
submit_message-requires-clause-own g c =
    subst (λ (p : PeerPass). IsOf c.args.hub.now p.seat) (sym c.messages.invariant.pass) c.requires.own

pub submit_message-requires-clause-body : goal.submit_message-requires-clause-body
submit_message-requires-clause-body g c = c.in-Message.ensures.valid

pub returns-in_err-submit_message-in-Message-clause-made : goal.returns-in_err-submit_message-in-Message-clause-made
returns-in_err-submit_message-in-Message-clause-made g c =
    let p = err_from_is_err_and c.from_residual.result c.from_residual.ensures.1 in
    let i = c.messages.invariant in
    rw (p.1, p.2)
    (way-stops c.args.hub.now.limits c.args.pass.now.peer
    (begun c.args.cutter.now ++ c.args.piece.now) c.args.pass.now c.messages.pass
    c.submit_message.new.pass (begun c.messages.cutter) (begun c.next.new.self) c.messages.rest.now
    c.in-Message.message.body.now c.in-Message.message.id c.in-Message.message.opcode c.in-Message.used
    c.in_err-submit_message-in-Message.field-0.0
    (same-peer c.args.pass.now c.messages.pass i.pass) i.way c.in-Message.ensures
    c.in_err-submit_message-in-Message.ensures.made)

pub returns-in_err-submit_message-in-Message-clause-pass : goal.returns-in_err-submit_message-in-Message-clause-pass
returns-in_err-submit_message-in-Message-clause-pass g c =
    pass-both c.args.pass.now c.messages.pass c.submit_message.new.pass c.messages.invariant.pass
    c.in_err-submit_message-in-Message.ensures.pass

pub returns-in_err-submit_message-in-Message-clause-saw : goal.returns-in_err-submit_message-in-Message-clause-saw
returns-in_err-submit_message-in-Message-clause-saw g c =
    saw-both c.args.hub.now.limits c.args.pass.now.seat.seen c.messages.pass.seat.seen
    c.submit_message.new.pass.seat.seen
    c.messages.invariant.saw c.in_err-submit_message-in-Message.ensures.saw

pub messages-preserved-in-Message : goal.messages-preserved-in-Message
messages-preserved-in-Message g c =
    let i = c.messages.invariant in
    let e = c.in_ok-submit_message-in-Message.ensures in record {
      pass = pass-both c.args.pass.now c.messages.pass c.submit_message.new.pass i.pass e.pass;
      saw = saw-both c.args.hub.now.limits c.args.pass.now.seat.seen c.messages.pass.seat.seen
          c.submit_message.new.pass.seat.seen i.saw e.saw;
      way = way-goes c.args.pass.now.peer (begun c.args.cutter.now ++ c.args.piece.now) c.args.pass.now c.messages.pass
          c.submit_message.new.pass (begun c.messages.cutter)
          (begun c.next.new.self) c.messages.rest.now c.split_at.result.1.now
          c.in-Message.message.body.now c.in-Message.message.id c.in-Message.message.opcode c.in-Message.used
          (same-peer c.args.pass.now c.messages.pass i.pass) i.way c.in-Message.ensures
          c.split_at.ensures.back e.made;
    }

pub submit_message-requires-in-Held-clause-own : goal.submit_message-requires-in-Held-clause-own
submit_message-requires-in-Held-clause-own g c =
    subst (λ (p : PeerPass). IsOf c.args.hub.now p.seat) (sym c.messages.invariant.pass) c.requires.own

pub submit_message-requires-in-Held-clause-body : goal.submit_message-requires-in-Held-clause-body
submit_message-requires-in-Held-clause-body g c =
    (held-first c.next.new.self c.held.ensures.id c.held.ensures.opcode c.held.ensures.body c.in-Held.ensures.1).valid

pub returns-in_err-submit_message-in-Held-clause-made : goal.returns-in_err-submit_message-in-Held-clause-made
returns-in_err-submit_message-in-Held-clause-made g c =
    let p = err_from_is_err_and c.from_residual-in_err-submit_message-in-Held.result
    c.from_residual-in_err-submit_message-in-Held.ensures.1 in
    let i = c.messages.invariant in
    rw (p.1, p.2)
    (way-stops c.args.hub.now.limits c.args.pass.now.peer
    (begun c.args.cutter.now ++ c.args.piece.now) c.args.pass.now c.messages.pass
    c.submit_message-in-Held.new.pass (begun c.messages.cutter) (begun c.next.new.self) c.messages.rest.now
    c.held.result.body.now c.held.result.id c.held.result.opcode c.in-Held.used
    c.in_err-submit_message-in-Held.field-0.0 (same-peer c.args.pass.now c.messages.pass i.pass) i.way
    (held-first c.next.new.self c.held.ensures.id c.held.ensures.opcode c.held.ensures.body c.in-Held.ensures.1)
    c.in_err-submit_message-in-Held.ensures.made)

pub returns-in_err-submit_message-in-Held-clause-pass : goal.returns-in_err-submit_message-in-Held-clause-pass
returns-in_err-submit_message-in-Held-clause-pass g c =
    pass-both c.args.pass.now c.messages.pass c.submit_message-in-Held.new.pass c.messages.invariant.pass
    c.in_err-submit_message-in-Held.ensures.pass

pub returns-in_err-submit_message-in-Held-clause-saw : goal.returns-in_err-submit_message-in-Held-clause-saw
returns-in_err-submit_message-in-Held-clause-saw g c =
    saw-both c.args.hub.now.limits c.args.pass.now.seat.seen c.messages.pass.seat.seen
    c.submit_message-in-Held.new.pass.seat.seen
    c.messages.invariant.saw c.in_err-submit_message-in-Held.ensures.saw

pub messages-preserved : goal.messages-preserved
messages-preserved g c =
    let i = c.messages.invariant in
    let e = c.in_ok-submit_message-in-Held.ensures in record {
      pass = pass-both c.args.pass.now c.messages.pass c.submit_message-in-Held.new.pass i.pass e.pass;
      saw = saw-both c.args.hub.now.limits c.args.pass.now.seat.seen c.messages.pass.seat.seen
          c.submit_message-in-Held.new.pass.seat.seen i.saw e.saw;
      way = way-goes c.args.pass.now.peer (begun c.args.cutter.now ++ c.args.piece.now) c.args.pass.now c.messages.pass
          c.submit_message-in-Held.new.pass (begun c.messages.cutter)
          (begun c.next.new.self) c.messages.rest.now c.split_at-in-Held.result.1.now
          c.held.result.body.now c.held.result.id c.held.result.opcode c.in-Held.used
          (same-peer c.args.pass.now c.messages.pass i.pass) i.way
          (held-first c.next.new.self c.held.ensures.id c.held.ensures.opcode c.held.ensures.body c.in-Held.ensures.1)
          c.split_at-in-Held.ensures.back e.made;
    }

pub returns-in-Nothing-clause-made : goal.returns-in-Nothing-clause-made
returns-in-Nothing-clause-made g c =
    (way-ends c.args.pass.now.peer (begun c.args.cutter.now ++ c.args.piece.now) c.args.pass.now c.messages.pass
    (begun c.messages.cutter ++ c.messages.rest.now)
    (begun c.next.new.self) c.messages.invariant.way c.in-Nothing.ensures).made

pub returns-in-Nothing-clause-ahead : goal.returns-in-Nothing-clause-ahead
returns-in-Nothing-clause-ahead g c =
    let k = way-ends c.args.pass.now.peer (begun c.args.cutter.now ++ c.args.piece.now) c.args.pass.now c.messages.pass
    (begun c.messages.cutter ++ c.messages.rest.now)
    (begun c.next.new.self) c.messages.invariant.way c.in-Nothing.ensures in
    (k.waiting_is, k.good)

pub submit_bad_size-requires-clause-own : goal.submit_bad_size-requires-clause-own
submit_bad_size-requires-clause-own g c =
    subst (λ (p : PeerPass). IsOf c.args.hub.now p.seat) (sym c.messages.invariant.pass) c.requires.own

pub submit_bad_size-requires-clause-bad : goal.submit_bad_size-requires-clause-bad
submit_bad_size-requires-clause-bad g c = c.in-BadSize.ensures.valid

pub returns-in_err-submit_bad_size-in-BadSize-clause-made : goal.returns-in_err-submit_bad_size-in-BadSize-clause-made
returns-in_err-submit_bad_size-in-BadSize-clause-made g c =
    let p = err_from_is_err_and c.from_residual-in_err-submit_bad_size-in-BadSize.result
    c.from_residual-in_err-submit_bad_size-in-BadSize.ensures.1 in
    let i = c.messages.invariant in
    rw (p.1, p.2)
    (way-bad-stops c.args.hub.now.limits c.args.pass.now.peer
    (begun c.args.cutter.now ++ c.args.piece.now) c.args.pass.now c.messages.pass
    c.submit_bad_size.new.pass (begun c.messages.cutter ++ c.messages.rest.now) c.in-BadSize.head
    c.in_err-submit_bad_size-in-BadSize.field-0.0 (same-peer c.args.pass.now c.messages.pass i.pass) i.way
    c.in-BadSize.ensures c.in_err-submit_bad_size-in-BadSize.ensures.made)

pub returns-in-BadSize-clause-made : goal.returns-in-BadSize-clause-made
returns-in-BadSize-clause-made g c =
    let i = c.messages.invariant in
    way-bad c.args.pass.now.peer (begun c.args.cutter.now ++ c.args.piece.now) c.args.pass.now c.messages.pass
    c.submit_bad_size.new.pass (begun c.messages.cutter ++ c.messages.rest.now) c.in-BadSize.head
    (same-peer c.args.pass.now c.messages.pass i.pass) i.way c.in-BadSize.ensures
    c.in_ok-submit_bad_size-in-BadSize.ensures.made

pub returns-in_err-submit_bad_size-in-BadSize-clause-pass : goal.returns-in_err-submit_bad_size-in-BadSize-clause-pass
returns-in_err-submit_bad_size-in-BadSize-clause-pass g c =
    pass-both c.args.pass.now c.messages.pass c.submit_bad_size.new.pass c.messages.invariant.pass
    c.in_err-submit_bad_size-in-BadSize.ensures.pass

pub returns-in_err-submit_bad_size-in-BadSize-clause-saw : goal.returns-in_err-submit_bad_size-in-BadSize-clause-saw
returns-in_err-submit_bad_size-in-BadSize-clause-saw g c =
    saw-both c.args.hub.now.limits c.args.pass.now.seat.seen c.messages.pass.seat.seen
    c.submit_bad_size.new.pass.seat.seen
    c.messages.invariant.saw c.in_err-submit_bad_size-in-BadSize.ensures.saw

pub returns-in-BadSize-clause-pass : goal.returns-in-BadSize-clause-pass
returns-in-BadSize-clause-pass g c =
    pass-both c.args.pass.now c.messages.pass c.submit_bad_size.new.pass c.messages.invariant.pass
    c.in_ok-submit_bad_size-in-BadSize.ensures.pass

pub returns-in-BadSize-clause-saw : goal.returns-in-BadSize-clause-saw
returns-in-BadSize-clause-saw g c =
    saw-both c.args.hub.now.limits c.args.pass.now.seat.seen c.messages.pass.seat.seen
    c.submit_bad_size.new.pass.seat.seen
    c.messages.invariant.saw c.in_ok-submit_bad_size-in-BadSize.ensures.saw
