use Rattle.std.proofs.Common.{◌≡◌, ◌<◌, Some, length, slice_get, sym, subst, arith}
use Rattle.broker_audience.specs.Seated.{Roster}
use Rattle.broker_audience.proofs.SlabIsList.{place_within, key_held, peer_there}
use Rattle.broker_audience.proofs.roster.Roster.at.Goals as goal

pub index-requires : goal.index-requires
index-requires c = let within =
    (place_within c.self.inside.slab c.self.inside.places.items c.args.place c.self.invariant
    (subst (λ (v : Roster). c.args.place < length v.items) (sym c.self.view_is) c.requires.place)) in omega arith

pub index-requires-2 : goal.index-requires-2
index-requires-2 c =
    key_held c.self.inside.slab c.self.inside.places.items c.args.place c.index.result.now c.self.invariant
    (place_within c.self.inside.slab c.self.inside.places.items c.args.place c.self.invariant
    (subst (λ (v : Roster). c.args.place < length v.items) (sym c.self.view_is) c.requires.place)) c.index.ensures

pub returns : goal.returns
returns c =
    subst (λ (v : Roster). slice_get v.items c.args.place ≡ Some c.index-2.result.now) c.self.view_is
    (peer_there c.self.inside.slab c.self.inside.places.items c.args.place c.index.result.now c.index-2.result.now
    c.self.invariant
    (place_within c.self.inside.slab c.self.inside.places.items c.args.place c.self.invariant
    (subst (λ (v : Roster). c.args.place < length v.items) (sym c.self.view_is) c.requires.place)) c.index.ensures
    c.index-2.ensures)
