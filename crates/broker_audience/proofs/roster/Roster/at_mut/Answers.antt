use Rattle.std.proofs.Common.{◌≡◌, ◌<◌, Some, length, slice_get, refl, sym, ap, subst, arith}
use Rattle.broker_audience.specs.declared.place.Place.{Place}
use Rattle.broker_audience.specs.Seated.{Roster, with_peer}
use Rattle.broker_audience.proofs.SlabIsList.{place_within, key_held, peer_there, seats_written, seated_written, count_written}
use Rattle.broker_audience.proofs.roster.Roster.at_mut.Goals as goal

pub index-requires : goal.index-requires
index-requires c = let within =
    (place_within c.self.inside.slab c.self.inside.places.items c.args.place c.self.invariant
    (subst (λ (v : Roster). c.args.place < length v.items) (sym c.self.view_is) c.requires.place)) in omega arith

pub index_mut-requires : goal.index_mut-requires
index_mut-requires c =
    key_held c.self.inside.slab c.self.inside.places.items c.args.place c.index.result.now c.self.invariant
    (place_within c.self.inside.slab c.self.inside.places.items c.args.place c.self.invariant
    (subst (λ (v : Roster). c.args.place < length v.items) (sym c.self.view_is) c.requires.place)) c.index.ensures

pub invariant_of-self-lent : goal.invariant_of-self-lent
invariant_of-self-lent c w =
    seats_written c.self.inside.slab c.self.inside.places.items c.self.invariant c.args.place
    (place_within c.self.inside.slab c.self.inside.places.items c.args.place c.self.invariant
    (subst (λ (v : Roster). c.args.place < length v.items) (sym c.self.view_is) c.requires.place)) c.index.result.now
    c.index.ensures w

pub returns : goal.returns
returns c =
    let slab = c.self.inside.slab in
    let places = c.self.inside.places.items in
    let at : Place = c.index.result.now in
    let within : c.args.place < length places =
    (place_within c.self.inside.slab c.self.inside.places.items c.args.place c.self.invariant
    (subst (λ (v : Roster). c.args.place < length v.items) (sym c.self.view_is) c.requires.place)) in (
      (
        refl,
        λ w. rw (
          seated_written slab places c.self.invariant c.args.place within at c.index.ensures w,
          count_written slab places c.self.invariant c.args.place within at c.index.ensures w,
        ) (ap (λ (v : Roster). with_peer v c.args.place w) c.self.view_is),
      ),
      record {
        lends = tt;
        value = subst (λ (v : Roster). slice_get v.items c.args.place ≡ Some c.index_mut.result.now) c.self.view_is
            (peer_there slab places c.args.place at c.index_mut.result.now c.self.invariant within c.index.ensures
            c.index_mut.ensures.value);
      },
    )
