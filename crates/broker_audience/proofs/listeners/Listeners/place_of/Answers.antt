use Rattle.std.proofs.Common.{subst}
use Rattle.broker_audience.specs.Visits.{Peers}
use Rattle.broker_audience.proofs.NamesStay.{IsFound, number_found}
use Rattle.broker_audience.proofs.listeners.Listeners.place_of.Goals as goal

pub place_of-requires : goal.place_of-requires
place_of-requires c = record { rising = c.self.invariant.3.numbers_rise }

pub returns : goal.returns
returns c =
    let is : IsFound c.args.number c.args.self.now.items c.place_of.result =
    subst (λ (v : Peers). IsFound c.args.number v.items c.place_of.result) c.self.view_is
    (number_found c.self.inside.peers c.args.number c.place_of.result c.self.invariant.3 c.place_of.ensures.found
    c.place_of.ensures.none) in
    record { found = is.found; within = is.within; first = is.first; none = is.none }
