use Rattle.std.proofs.Common.{◌≡◌, ◌+◌, ◌<◌, [], ◌∷◌, ◌++◌, length, sym, ap, subst, arith}
use Rattle.broker_audience.specs.Visits.{Peers, IsAboveAll}
use Rattle.std.specs.Prelude.{min, ◌-◌}
use Rattle.std.proofs.lemmas.List.{length-append}
use Rattle.broker_audience.proofs.NamesStay.{named_pushed}
use Rattle.broker_audience.proofs.UnmarkedAreQuiet.{listening_pushed}
use Rattle.broker_audience.proofs.listeners.Listeners.push.Goals as goal

pub invariant_of-self : goal.invariant_of-self
invariant_of-self c =
    let live = c.self.inside.peers.items in
    let room : 0
    < min c.self.inside.peers.room
    (min (c.self.inside.told.bound - length live) (c.self.inside.due.bound - length live)) =
    subst (λ (v : Peers). 0 < v.room) (sym c.self.view_is) c.requires.room in
    let longer : length (live ++ c.args.peer ∷ []) ≡ length live + 1 = length-append live (c.args.peer ∷ []) in
    let here : length c.push.new.self.items ≡ length (live ++ c.args.peer ∷ []) = ap length c.push.ensures.put in (
      rw c.push.ensures.put
          (listening_pushed c.args.peer live c.self.inside.told.places c.self.inside.due.places c.self.invariant.0
          c.requires.new),
      omega (arith, here, longer, room),
      omega (arith, here, longer, room),
      named_pushed c.self.inside.peers c.push.new.self c.args.peer c.self.invariant.3
          (subst (λ (v : Peers). IsAboveAll c.args.peer v.items) (sym c.self.view_is) c.requires.above)
          c.push.ensures.numbers c.push.ensures.labels c.push.ensures.put,
    )
