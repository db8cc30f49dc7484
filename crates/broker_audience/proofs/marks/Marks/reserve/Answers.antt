use Rattle.std.proofs.Common.{sym, subst, arith}
use Rattle.std.specs.Vec.{vec_capacity}
use Rattle.broker_audience.specs.Marks.{AreWithin}
use Rattle.broker_audience.proofs.MarkedPlaces.{within_later}
use Rattle.broker_audience.proofs.marks.Marks.reserve.Goals as goal

pub invariant_of-self-2 : goal.invariant_of-self-2
invariant_of-self-2 c =
    subst (AreWithin 0 (vec_capacity c.reserve.new.self)) (sym c.reserve.ensures.items)
    (within_later c.self.inside.places.items 0 (vec_capacity c.self.inside.places)
    (vec_capacity c.reserve.new.self) c.self.invariant (omega (arith, c.reserve.ensures.capacity)))
