use Rattle.std.proofs.Common.{◌≡◌, ◌≢◌, ℕ, ap, ◌∙◌, arith, eqb, true, false}
use Rattle.std.proofs.lemmas.Bool.Decides.{nat_tests}
use Rattle.std.proofs.lemmas.List.Sums.{count_by_more_yes, count_by_more_no}
use Rattle.relay_objects.specs.Places.{no_place, peer_at}
use Rattle.relay_objects.proofs.NamedObjects.{key_some}
use Rattle.relay_objects.proofs.RemovedObjects.{others_kept}
use Rattle.relay_objects.proofs.shelf.empty_slots.Goals.{then-place-peer, else-place-peer}
use Rattle.relay_objects.proofs.shelf.empty_slots.Goals as goal

is_equal : (a b : ℕ) → a ≡ b → eqb a b ≡ true
is_equal a b e = grind (arith, nat_tests)

is_other : (a b : ℕ) → a ≢ b → eqb a b ≡ false
is_other a b e = grind (arith, nat_tests)

pub empty_slot-requires : goal.empty_slot-requires
empty_slot-requires c =
    rw (c.loop-place.invariant.ahead c.loop-place.place-index (omega arith) (omega arith))
    (key_some c.args.slab.now c.args.places.now c.loop-place.place-index c.requires.held (omega arith))

pub loop-place-preserved : goal.loop-place-preserved
loop-place-preserved c = elim c.if-place-peer.branch [
  | then-place-peer w ↦
      let next = others_kept c.args.slab.now c.loop-place.slab c.if-place-peer.slab c.args.places.now
      c.loop-place.place-index c.requires (omega arith) (rw w.slab-is w.empty_slot.ensures.updates) in
      record {
        ahead = λ j le lt. next j lt (λ same. omega arith) (c.loop-place.invariant.ahead j (omega arith) lt);
        others = λ j lt other. next j lt (λ same. other (ap (peer_at c.args.places.now) same ∙ w.if-place-peer.true))
            (c.loop-place.invariant.others j lt other);
        emptied = rw (
          w.slab-is,
          count_by_more_yes
              (λ p. eqb p.peer c.args.peer) c.args.places.now c.loop-place.place-index no_place (omega arith)
              (is_equal _ _ w.if-place-peer.true),
        )
            (omega (arith, w.empty_slot.ensures.len, c.loop-place.invariant.emptied));
        capacity = rw w.slab-is (w.empty_slot.ensures.capacity ∙ c.loop-place.invariant.capacity);
      }
  | else-place-peer w ↦ rw w.slab-is (record {
    ahead = λ j le lt. c.loop-place.invariant.ahead j (omega arith) lt;
    others = c.loop-place.invariant.others;
    emptied = rw
        (count_by_more_no (λ p. eqb p.peer c.args.peer) c.args.places.now c.loop-place.place-index no_place
        (omega arith) (is_other _ _ w.if-place-peer.false)) c.loop-place.invariant.emptied;
    capacity = c.loop-place.invariant.capacity;
  })
]
