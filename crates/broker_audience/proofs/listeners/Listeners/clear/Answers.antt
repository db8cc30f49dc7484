use Rattle.std.proofs.Common.{◌≡◌, ℕ, List, length, map, refl, ap, ◌∙◌, arith}
use Rattle.broker_audience.specs.Visits.{Peers, map_at, at_marked}
use Rattle.std.proofs.lemmas.List.{length-map}
use Rattle.broker_audience.specs.Lives.{cleared}
use Rattle.broker_audience.proofs.NamesStay.{named_mapped}
use Rattle.broker_audience.proofs.VisitIsPass.{all_visited}
use Rattle.broker_audience.proofs.UnmarkedAreQuiet.{listening_cleared, unmarked_cleared}
use Rattle.broker_audience.proofs.listeners.Listeners.clear.Goals as goal

all : (c : goal.After-clear) → c.clear_each.new.peers.items ≡ map cleared c.self.inside.peers.items
all c =
    let live = c.self.inside.peers.items in
    c.clear_each.ensures.items
    ∙ ap (λ (ms : List ℕ). map_at (at_marked ms cleared) 0 live) c.places.ensures.places
    ∙ all_visited cleared c.self.inside.told.places live
    (unmarked_cleared live c.self.inside.told.places c.self.inside.due.places c.self.invariant.0)

pub invariant_of-self : goal.invariant_of-self
invariant_of-self c =
    let live = c.self.inside.peers.items in
    let same : length c.clear_each.new.peers.items ≡ length live = ap length (all c) ∙ length-map live cleared in (
      rw (all c, c.clear.ensures.none)
          (listening_cleared live c.self.inside.told.places c.self.inside.due.places c.self.invariant.0),
      omega (arith, same, c.self.invariant.1, c.clear.ensures.bound),
      omega (arith, same, c.self.invariant.2),
      named_mapped c.self.inside.peers c.clear_each.new.peers cleared (λ _. refl) (λ _. refl) c.self.invariant.3
          c.clear_each.ensures.rest (all c),
    )

pub returns : goal.returns
returns c = record { items = all c ∙ ap (λ (v : Peers). map cleared v.items) c.self.view_is }
