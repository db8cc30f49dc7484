use Rattle.std.proofs.Common.{rules, sym, subst}
use Rattle.hub_lock.specs.Passes.{PassSeat, IsOf}
use Rattle.serve_record.specs.Handed.{handed_text, HandsOut}
use Rattle.serve_record.proofs.RecordGrows.{holds_through, front_through}
use Rattle.serve_record.proofs.HandedWritten.{no_step_on, front_on, front_same, holds_same, on_fault, recording_begins, recording_more}
use Rattle.serve_record.proofs.record_hub.record_handed.Goals as goal

pub loop-init : goal.loop-init
loop-init g c = recording_begins c.args.pass.now c.args.output.now c.args.text.now

pub next_entry-requires : goal.next_entry-requires
next_entry-requires g c = record {
  own = subst (λ (s : PassSeat). IsOf c.args.hub.now s) (sym c.loop.invariant.none_made.seat) c.requires.own;
}

pub put-requires : goal.put-requires
put-requires g c =
    (subst (HandsOut c.args.hub.now.limits c.loop.pass c.next_entry.new.pass) c.in-Some-2.is
    c.in_ok-next.ensures.next).fits

pub returns-in_err-next-clause-seen : goal.returns-in_err-next-clause-seen
returns-in_err-next-clause-seen g c =
    (no_step_on c.args.pass.now.seat c.loop.pass.seat c.next_entry.new.pass.seat c.loop.invariant.none_made
    c.next_entry.ensures.none_made).seen

pub returns-in_err-next-clause-written : goal.returns-in_err-next-clause-written
returns-in_err-next-clause-written g c first held =
    on_fault _ _ _ (search rules)
    (front_same c.args.hub.now.limits first (g.K.Sink.held c.next_entry.new.output) c.loop.pass.handed
    c.next_entry.new.pass.handed c.in_err-next.ensures.same
    (front_through first (g.K.Sink.held c.loop.output) (g.K.Sink.held c.next_entry.new.output) c.loop.text
    (handed_text c.args.hub.now.limits c.loop.pass.handed) (c.loop.invariant.written first held)
    c.in_err-next.ensures.gains.front))

pub returns-in_err-put-in-Some-2-clause-seen : goal.returns-in_err-put-in-Some-2-clause-seen
returns-in_err-put-in-Some-2-clause-seen g c =
    (no_step_on c.args.pass.now.seat c.loop.pass.seat c.next_entry.new.pass.seat c.loop.invariant.none_made
    c.next_entry.ensures.none_made).seen

pub returns-in_err-put-in-Some-2-clause-written : goal.returns-in_err-put-in-Some-2-clause-written
returns-in_err-put-in-Some-2-clause-written g c first held =
    let hands = subst (HandsOut c.args.hub.now.limits c.loop.pass c.next_entry.new.pass) c.in-Some-2.is
    c.in_ok-next.ensures.next in
    on_fault _ _ _ (search rules)
    (front_on c.args.hub.now.limits first (g.K.Sink.held c.next_entry.new.output) (g.K.Sink.held c.put.new.output)
    c.next_entry.new.text c.loop.pass.handed c.next_entry.new.pass.handed c.in-Some-2.next hands.handed
    (holds_through first (g.K.Sink.held c.loop.output) (g.K.Sink.held c.next_entry.new.output) c.loop.text
    c.next_entry.new.text (handed_text c.args.hub.now.limits c.loop.pass.handed) (c.loop.invariant.written first held)
    c.in_ok-next.ensures.gains.whole)
    c.in_err-put-in-Some-2.ensures.front)

pub returns-in-None-2-clause-seen : goal.returns-in-None-2-clause-seen
returns-in-None-2-clause-seen g c =
    (no_step_on c.args.pass.now.seat c.loop.pass.seat c.next_entry.new.pass.seat c.loop.invariant.none_made
    c.next_entry.ensures.none_made).seen

pub returns-in-None-2-clause-written : goal.returns-in-None-2-clause-written
returns-in-None-2-clause-written g c first held =
    let hands = subst (HandsOut c.args.hub.now.limits c.loop.pass c.next_entry.new.pass) c.in-None-2.is
    c.in_ok-next.ensures.next in (
      holds_same c.args.hub.now.limits first (g.K.Sink.held c.next_entry.new.output) c.next_entry.new.text
          c.loop.pass.handed c.next_entry.new.pass.handed hands.handed
          (holds_through first (g.K.Sink.held c.loop.output) (g.K.Sink.held c.next_entry.new.output) c.loop.text
          c.next_entry.new.text (handed_text c.args.hub.now.limits c.loop.pass.handed)
          (c.loop.invariant.written first held) c.in_ok-next.ensures.gains.whole),
      tt,
    )

pub loop-preserved-in_ok-put-in-Some-2 : goal.loop-preserved-in_ok-put-in-Some-2
loop-preserved-in_ok-put-in-Some-2 g c =
    recording_more c.loop.invariant c.next_entry.ensures.none_made
    (subst (HandsOut c.args.hub.now.limits c.loop.pass c.next_entry.new.pass) c.in-Some-2.is c.in_ok-next.ensures.next)
    c.in_ok-next.ensures.gains c.in_ok-put-in-Some-2.ensures

pub loop-preserved-in_ok-put-in-Some-2-2 : goal.loop-preserved-in_ok-put-in-Some-2-2
loop-preserved-in_ok-put-in-Some-2-2 g c =
    recording_more c.loop.invariant c.next_entry.ensures.none_made
    (subst (HandsOut c.args.hub.now.limits c.loop.pass c.next_entry.new.pass) c.in-Some-2.is c.in_ok-next.ensures.next)
    c.in_ok-next.ensures.gains c.in_ok-put-in-Some-2.ensures

pub loop-preserved-in_ok-put-in-Some-2-3 : goal.loop-preserved-in_ok-put-in-Some-2-3
loop-preserved-in_ok-put-in-Some-2-3 g c =
    recording_more c.loop.invariant c.next_entry.ensures.none_made
    (subst (HandsOut c.args.hub.now.limits c.loop.pass c.next_entry.new.pass) c.in-Some-2.is c.in_ok-next.ensures.next)
    c.in_ok-next.ensures.gains c.in_ok-put-in-Some-2.ensures

pub loop-preserved : goal.loop-preserved
loop-preserved g c =
    recording_more c.loop.invariant c.next_entry.ensures.none_made
    (subst (HandsOut c.args.hub.now.limits c.loop.pass c.next_entry.new.pass) c.in-Some-2.is c.in_ok-next.ensures.next)
    c.in_ok-next.ensures.gains c.in_ok-put-in-Some-2.ensures
