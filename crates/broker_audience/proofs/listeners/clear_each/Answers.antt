use Rattle.std.proofs.Common.{◌≡◌, ◌<◌, ℕ, List, length, get_or, set, take, refl, ap, ◌∙◌}
use Rattle.std.proofs.lemmas.List.{take_all}
use Rattle.broker_audience.specs.declared.live.Live.{Live}
use Rattle.broker_audience.specs.Gathered.{Gathered}
use Rattle.broker_audience.specs.Lives.{cleared}
use Rattle.broker_audience.specs.Seated.{Roster}
use Rattle.broker_audience.specs.Visits.{map_at, at_marked, changed_at}
use Rattle.broker_audience.proofs.MarkedPlaces.{below}
use Rattle.broker_audience.proofs.VisitIsPass.{map_at_length, none_visited, visited_more, written_at}
use Rattle.broker_audience.proofs.listeners.clear_each.Goals as goal

pub loop-place-init : goal.loop-place-init
loop-place-init c = record { items = none_visited cleared 0 c.args.peers.now.items; rest = refl }

pub at_mut-requires : goal.at_mut-requires
at_mut-requires c =
    let same = map_at_length
    (at_marked (take c.loop-place.place-index c.args.told.now) cleared) 0 c.args.peers.now.items in
    let within =
    below c.args.told.now 0
    (length c.args.peers.now.items) c.loop-place.place-index 0 c.requires.within c.loop-place-test.true in
    record { place = rw (c.loop-place.invariant.items, same) within }

pub loop-place-preserved : goal.loop-place-preserved
loop-place-preserved c =
    let old : List Live = c.loop-place.peers.items in
    let p = get_or c.args.told.now c.loop-place.place-index 0 in
    let new : Live = (record c.at_mut.result.now { gathering = c.clear.new.self }) in
    let same = map_at_length
    (at_marked (take c.loop-place.place-index c.args.told.now) cleared) 0 c.args.peers.now.items in
    let within : p < length old =
    rw (c.loop-place.invariant.items, same)
    (below c.args.told.now 0
    (length c.args.peers.now.items) c.loop-place.place-index 0 c.requires.within c.loop-place-test.true) in
    let written : set old p new ≡ changed_at p cleared old =
    written_at cleared p old c.at_mut.result.now new within c.at_mut.ensures.value
    (ap (λ (g : Gathered). record c.at_mut.result.now { gathering = g }) c.clear.ensures.empty) in
    record {
      items = written
          ∙ ap (changed_at p cleared) c.loop-place.invariant.items
          ∙ visited_more cleared c.args.told.now c.args.peers.now.items c.loop-place.place-index 0 c.requires.within
          c.loop-place-test.true;
      rest = ap (λ (r : Roster). record r { items = set old p new }) c.loop-place.invariant.rest;
    }

pub returns : goal.returns
returns c =
    record {
      items = c.loop-place.invariant.items
          ∙ ap (λ (ms : List ℕ). map_at (at_marked ms cleared) 0 c.args.peers.now.items)
          (take_all c.loop-place.place-index c.args.told.now c.loop-place-test.false);
      rest = c.loop-place.invariant.rest;
    }
