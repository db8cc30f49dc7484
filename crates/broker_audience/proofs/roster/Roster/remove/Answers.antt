use Rattle.std.proofs.Common.{◌≡◌, ◌<◌, Some, length, map, slice_get, sym, ap, ◌∙◌, subst, arith}
use Rattle.std.specs.List.{remove}
use Rattle.broker_audience.specs.declared.place.Place.{Place}
use Rattle.broker_audience.specs.Seated.{Roster, seated, AreSeated}
use Rattle.broker_audience.proofs.PeersInOrder.{removed_mapped}
use Rattle.broker_audience.proofs.SlabIsList.{place_within, key_held, peer_there, seats_left, seated_left}
use Rattle.broker_audience.proofs.roster.Roster.remove.Goals as goal

pub remove-place-requires : goal.remove-place-requires
remove-place-requires c = let within =
    (place_within c.self.inside.slab c.self.inside.places.items c.args.place c.self.invariant
    (subst (λ (v : Roster). c.args.place < length v.items) (sym c.self.view_is) c.requires.place)) in omega arith

pub remove-requires : goal.remove-requires
remove-requires c =
    key_held c.self.inside.slab c.self.inside.places.items c.args.place c.remove-place.result c.self.invariant
    (place_within c.self.inside.slab c.self.inside.places.items c.args.place c.self.invariant
    (subst (λ (v : Roster). c.args.place < length v.items) (sym c.self.view_is) c.requires.place))
    c.remove-place.ensures.value

pub invariant_of-self : goal.invariant_of-self
invariant_of-self c =
    subst (AreSeated c.remove.new.self) (sym c.remove-place.ensures.items)
    (seats_left c.self.inside.slab c.remove.new.self c.self.inside.places.items c.self.invariant c.args.place
    (place_within c.self.inside.slab c.self.inside.places.items c.args.place c.self.invariant
    (subst (λ (v : Roster). c.args.place < length v.items) (sym c.self.view_is) c.requires.place)) c.remove-place.result
    c.remove-place.ensures.value c.remove.ensures.updates c.remove.ensures.len)

pub returns-clause-left : goal.returns-clause-left
returns-clause-left c =
    subst (λ (v : Roster). slice_get v.items c.args.place ≡ Some c.remove.result) c.self.view_is
    (peer_there c.self.inside.slab c.self.inside.places.items c.args.place c.remove-place.result c.remove.result
    c.self.invariant
    (place_within c.self.inside.slab c.self.inside.places.items c.args.place c.self.invariant
    (subst (λ (v : Roster). c.args.place < length v.items) (sym c.self.view_is) c.requires.place))
    c.remove-place.ensures.value c.remove.ensures.value)

pub returns-clause-numbers : goal.returns-clause-numbers
returns-clause-numbers c =
    ap (map (λ (p : Place). p.number)) c.remove-place.ensures.items
    ∙ sym (removed_mapped (λ (p : Place). p.number) c.self.inside.places.items c.args.place)
    ∙ ap (λ (v : Roster). remove v.numbers c.args.place) c.self.view_is

pub returns-clause-labels : goal.returns-clause-labels
returns-clause-labels c =
    ap (map (λ (p : Place). p.label)) c.remove-place.ensures.items
    ∙ sym (removed_mapped (λ (p : Place). p.label) c.self.inside.places.items c.args.place)
    ∙ ap (λ (v : Roster). remove v.labels c.args.place) c.self.view_is

pub returns-clause-items : goal.returns-clause-items
returns-clause-items c =
    ap (seated c.remove.new.self) c.remove-place.ensures.items
    ∙ seated_left c.self.inside.slab c.remove.new.self c.self.inside.places.items c.self.invariant c.args.place
    (place_within c.self.inside.slab c.self.inside.places.items c.args.place c.self.invariant
    (subst (λ (v : Roster). c.args.place < length v.items) (sym c.self.view_is) c.requires.place)) c.remove-place.result
    c.remove-place.ensures.value c.remove.ensures.updates c.remove.ensures.len
    ∙ ap (λ (v : Roster). remove v.items c.args.place) c.self.view_is
