use Rattle.std.proofs.Common.{◌≡◌, rules, List, Ok, Err, map, sym, ap, subst}
use Rattle.std.proofs.lemmas.List.Sorted.{answers_always}
use Rattle.broker_audience.specs.declared.place.Place.{Place}
use Rattle.broker_audience.specs.Lives.{AreOver}
use Rattle.broker_audience.specs.Seated.{Roster}
use Rattle.broker_audience.specs.Visits.{IsAt, HasNone}
use Rattle.broker_audience.proofs.PeersInOrder.{searched, at_mapped, none_mapped, over_unmapped}
use Rattle.broker_audience.proofs.roster.Roster.place_of.Goals as goal

nowhere : Place
nowhere = record { number = 0; label = 0; key = 0 }

pub returns-in-Some-clause-found : goal.returns-in-Some-clause-found
returns-in-Some-clause-found c =
    subst (λ (v : Roster). IsAt (λ n. n) c.args.number v.numbers c.in-Some.place) c.self.view_is
    (at_mapped (λ (p : Place). p.number) c.self.inside.places.items c.args.number c.in-Some.place nowhere
    (rw c.deref.ensures.value at c.in-Some.ensures))

rising : (r : Roster) (places : List Place) → map (λ (p : Place). p.number) places ≡ r.numbers →
    AreOver (λ n. n) 0 r.numbers → AreOver (λ (p : Place). p.number) 0 places
rising r places is over = over_unmapped (λ (p : Place). p.number) places 0 (subst (AreOver (λ n. n) 0) (sym is) over)

pub returns-in-Ok-clause-found : goal.returns-in-Ok-clause-found
returns-in-Ok-clause-found c =
    let facts = c.in-Ok.ensures in
    subst (λ (v : Roster). IsAt (λ n. n) c.args.number v.numbers c.in-Ok.place) c.self.view_is
    (at_mapped (λ (p : Place). p.number) c.self.inside.places.items c.args.number c.in-Ok.place nowhere
    (rw c.deref-2.ensures.value at
    ((searched (λ p. p.number) c.deref-2.result.now
    (rw c.deref-2.ensures.value (rising c.args.self.now c.self.inside.places.items
    (ap (λ (v : Roster). v.numbers) c.self.view_is) c.requires.rising)) c.args.number
    (Ok c.in-Ok.place) facts.bound
    (facts.position (λ p. p.number) (answers_always _ _ _ (λ f a r g called. search rules)))).found)))

pub returns-in-Err-clause-none : goal.returns-in-Err-clause-none
returns-in-Err-clause-none c =
    let facts = c.in-Err.ensures in
    subst (λ (v : Roster). HasNone (λ n. n) c.args.number v.numbers) c.self.view_is
    (none_mapped (λ (p : Place). p.number) c.self.inside.places.items c.args.number nowhere
    (rw c.deref-2.ensures.value at
    ((searched (λ p. p.number) c.deref-2.result.now
    (rw c.deref-2.ensures.value (rising c.args.self.now c.self.inside.places.items
    (ap (λ (v : Roster). v.numbers) c.self.view_is) c.requires.rising)) c.args.number
    (Err c.in-Err.field-0) facts.bound
    (facts.position (λ p. p.number) (answers_always _ _ _ (λ f a r g called. search rules)))).absent)))
