use Rattle.std.proofs.Common.{ap}
use Rattle.relay_objects.proofs.NewObject.{stands_same}
use Rattle.relay_objects.proofs.shelf.Shelf.reserve.Goals as goal

pub invariant_of-self : goal.invariant_of-self
invariant_of-self c =
    stands_same c.self.inside.slab c.reserve.new.self c.self.inside.places.items
    (ap (λ s. s.slots) c.reserve.ensures.rest_kept) c.self.invariant

pub invariant_of-self-in_err-reserve-2 : goal.invariant_of-self-in_err-reserve-2
invariant_of-self-in_err-reserve-2 c =
    rw c.reserve-2.ensures.items
    (stands_same c.self.inside.slab c.reserve.new.self c.self.inside.places.items
    (ap (λ s. s.slots) c.reserve.ensures.rest_kept) c.self.invariant)

pub invariant_of-self-2 : goal.invariant_of-self-2
invariant_of-self-2 c =
    rw c.reserve-2.ensures.items
    (stands_same c.self.inside.slab c.reserve.new.self c.self.inside.places.items
    (ap (λ s. s.slots) c.reserve.ensures.rest_kept) c.self.invariant)
