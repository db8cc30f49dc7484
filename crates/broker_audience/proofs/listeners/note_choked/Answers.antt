use Rattle.std.proofs.Common.{◌≡◌, length, get_or, take, sym, ap, ◌∙◌, arith}
use Rattle.std.proofs.lemmas.List.{take_all, take_more}
use Rattle.broker_audience.specs.Marks.{is_marked}
use Rattle.broker_audience.proofs.MarkedPlaces.{below, marked_more}
use Rattle.broker_audience.proofs.UnmarkedAreQuiet.{or_right, noted}
use Rattle.broker_audience.proofs.listeners.note_choked.Goals as goal

pub loop-place-init : goal.loop-place-init
loop-place-init c =
    record { kept = λ k off. off; choked = λ k d on off. absurd (cc); within = λ within. within; bound = omega arith }

pub at-requires : goal.at-requires
at-requires c =
    record {
      place =
          below c.args.told.now 0
          (length c.args.peers.now.items) c.loop-place.place-index 0 c.requires.within c.loop-place-test.true;
    }

pub mark_if-requires : goal.mark_if-requires
mark_if-requires c =
    let within =
    below c.args.told.now 0
    (length c.args.peers.now.items) c.loop-place.place-index 0 c.requires.within c.loop-place-test.true in
    record { place = omega (arith, within, c.loop-place.invariant.bound, c.requires.room) }

pub loop-place-preserved : goal.loop-place-preserved
loop-place-preserved c =
    let i = c.loop-place.place-index in
    let p = get_or c.args.told.now i 0 in
    let within = below c.args.told.now 0 (length c.args.peers.now.items) i 0 c.requires.within c.loop-place-test.true in
    record {
      kept = λ k off. c.loop-place.invariant.kept k (or_right _ _ (sym (c.mark_if.ensures.marked k) ∙ off));
      choked = λ k d on off.
          noted c.args.peers.now.items c.args.told.now c.loop-place.due.places i p k d c.at.result.now c.at.ensures
          (sym (marked_more (take i c.args.told.now) p k)
          ∙ ap (is_marked k) (sym (take_more c.args.told.now i 0 c.loop-place-test.true)) ∙ on)
          (sym (c.mark_if.ensures.marked k) ∙ off) (c.loop-place.invariant.choked k d);
      within = λ old. c.mark_if.ensures.within (length c.args.peers.now.items)
          (c.loop-place.invariant.within old) within;
      bound = omega (arith, c.loop-place.invariant.bound, c.mark_if.ensures.bound);
    }

pub returns : goal.returns
returns c =
    let all : take c.loop-place.place-index c.args.told.now ≡ c.args.told.now =
    take_all c.loop-place.place-index c.args.told.now c.loop-place-test.false in
    record {
      kept = c.loop-place.invariant.kept;
      choked = λ k d on off. c.loop-place.invariant.choked k d (ap (is_marked k) all ∙ on) off;
      within = c.loop-place.invariant.within;
      bound = c.loop-place.invariant.bound;
    }
