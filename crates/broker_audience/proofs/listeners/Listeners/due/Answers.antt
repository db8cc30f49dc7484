use Rattle.std.proofs.Common.{◌≡◌, length, get_or, take, Some, None, sym, ap, ◌∙◌, subst}
use Rattle.std.proofs.lemmas.List.{take_all}
use Rattle.broker_audience.specs.Changes.{first_due}
use Rattle.broker_audience.specs.Marks.{is_marked}
use Rattle.broker_audience.specs.Visits.{Peers, cause_of, AreListening}
use Rattle.broker_audience.proofs.MarkedPlaces.{below}
use Rattle.broker_audience.proofs.UnmarkedAreQuiet.{due_there, due_more, due_none}
use Rattle.broker_audience.proofs.listeners.Listeners.due.Goals as goal

pub at-requires : goal.at-requires
at-requires c =
    let due = c.places-place-items.result.now in
    let there = rw (← c.places-place-items.ensures.places) at c.self.invariant.0.due_within in
    record {
      place =
          below due 0 (length c.self.inside.peers.items) c.loop-place.place-index 0 there c.loop-place-test.true;
    }

pub returns-in-Some : goal.returns-in-Some
returns-in-Some c =
    let live = c.self.inside.peers.items in
    let due = c.places-place-items.result.now in
    let l : AreListening live c.self.inside.told.places due =
    rw (← c.places-place-items.ensures.places) at c.self.invariant.0 in
    let cause : cause_of c.at.result.now ≡ Some c.in-Some.due = sym c.cause_of.ensures ∙ c.in-Some.is in
    sym cause
    ∙ due_there live c.self.inside.told.places due l c.loop-place.place-index c.loop-place-test.true
    (λ k d on. subst (λ (v : Peers). cause_of (get_or v.items k d) ≡ None) (sym c.self.view_is)
    (c.loop-place.invariant k d on)) c.at.result.now c.at.ensures
    (λ none. let no : Some c.in-Some.due ≡ None = sym cause ∙ none in absurd (cc))
    ∙ ap (λ (v : Peers). first_due v.items) c.self.view_is

pub loop-place-preserved : goal.loop-place-preserved
loop-place-preserved c = λ k d on.
    let live = c.self.inside.peers.items in
    let due = c.places-place-items.result.now in
    subst (λ (v : Peers). cause_of (get_or v.items k d) ≡ None) c.self.view_is
    (due_more live due c.loop-place.place-index k d c.at.result.now c.loop-place-test.true c.at.ensures
    (sym c.cause_of.ensures ∙ c.in_default.is)
    (λ on. subst (λ (v : Peers). cause_of (get_or v.items k d) ≡ None) (sym c.self.view_is)
    (c.loop-place.invariant k d on)) on)

pub returns : goal.returns
returns c =
    let live = c.self.inside.peers.items in
    let due = c.places-place-items.result.now in
    let l : AreListening live c.self.inside.told.places due =
    rw (← c.places-place-items.ensures.places) at c.self.invariant.0 in
    let all : take c.loop-place.place-index due ≡ due = take_all c.loop-place.place-index due c.loop-place-test.false in
    due_none live c.self.inside.told.places due l
    (λ k d on. subst (λ (v : Peers). cause_of (get_or v.items k d) ≡ None) (sym c.self.view_is)
    (c.loop-place.invariant k d (ap (is_marked k) all ∙ on)))
    ∙ ap (λ (v : Peers). first_due v.items) c.self.view_is
