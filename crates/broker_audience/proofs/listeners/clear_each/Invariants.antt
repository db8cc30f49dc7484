use Rattle.std.proofs.Common.{◌≡◌, take}
use Rattle.broker_audience.specs.Lives.{cleared}
use Rattle.broker_audience.specs.Visits.{map_at, at_marked}
use Rattle.broker_audience.proofs.listeners.clear_each.Given as goal

-- those at the marked places so far are visited
abbrev pub invariant-loop-place : goal.invariant-loop-place
invariant-loop-place l = record {
  items : l.peers.items ≡ map_at (at_marked (take l.place-index l.told) cleared) 0 l.fn.peers.items;
  rest : l.peers ≡ record l.fn.peers { items = l.peers.items };
}
