use Rattle.std.proofs.Common.{◌≡◌, length, ap, arith}
use Rattle.broker_audience.specs.Seated.{Roster, seated}
use Rattle.broker_audience.proofs.SlabIsList.{seated_length}
use Rattle.broker_audience.proofs.roster.Roster.next_len.Goals as goal

pub returns : goal.returns
returns c =
    let long = seated_length c.self.inside.slab c.self.inside.places.items c.self.invariant.held in
    let here : length (seated c.self.inside.slab c.self.inside.places.items) ≡ length c.args.self.now.items =
    ap (λ (v : Roster). length v.items) c.self.view_is in
    omega (arith, long, here, c.len.ensures)
