use Rattle.std.proofs.Common.{ap, arith, add-one, drop-drop}
use Rattle.circular_buffer.specs.Buffer.{Buffer}
use Rattle.out_store.proofs.PlacesWrap.{begun_count-front, begun_count-beyond, begun_count-none, moved-more}
use Rattle.out_store.specs.declared.begins.Begin.{Begin}
use Rattle.out_store.proofs.begins.take_begun.Goals as goal

pub bounds-out-count : goal.bounds-out-count
bounds-out-count c =
    let more = begun_count-front c.args.front c.args.n c.loop-begin.ring.items c.in-Some.field-0.now c.in-Some.ensures
    c.if-begin-front.false in
    let left = c.loop-begin.invariant.left in
    let room = c.requires.places in
    omega arith

pub loop-begin-preserved : goal.loop-begin-preserved
loop-begin-preserved c =
    let items = c.pop_front.ensures.items in
    let more = begun_count-front c.args.front c.args.n c.loop-begin.ring.items c.in-Some.field-0.now c.in-Some.ensures
    c.if-begin-front.false in
    let left = c.loop-begin.invariant.left in
    let room = c.requires.places in
    let ring = ap (λ (b : Buffer Begin). b.items) c.loop-begin.invariant.ring in
    record {
      left = rw items (omega arith);
      ring = rw (items, c.loop-begin.invariant.ring, drop-drop);
      out = rw (c.loop-begin.invariant.out, add-one)
          (moved-more c.args.ring.now.items c.in-Some.field-0.now c.args.out.now c.loop-begin.count
          (rw ring at c.in-Some.ensures) (omega arith));
    }

pub returns-then-begin-front-clause-count : goal.returns-then-begin-front-clause-count
returns-then-begin-front-clause-count c =
    let none = begun_count-beyond c.args.front c.args.n c.loop-begin.ring.items c.in-Some.field-0.now c.in-Some.ensures
    c.if-begin-front.true in
    let left = c.loop-begin.invariant.left in
    omega arith

pub returns-in_default-clause-count : goal.returns-in_default-clause-count
returns-in_default-clause-count c =
    let none = begun_count-none c.args.front c.args.n c.loop-begin.ring.items c.in_default.ensures in
    let left = c.loop-begin.invariant.left in
    omega arith
