use Rattle.std.proofs.Common.{◌≡◌}
use Rattle.turn_lock.specs.Pairs.{HasSeen}
use Rattle.hub_lock.specs.Calls.{pass_having_seen}
use Rattle.hub_lock.proofs.hub.Hub.wait_take_into.Given as goal

-- the pass has seen more and made nothing
abbrev pub invariant-loop : goal.invariant-loop
invariant-loop g l = record {
  pass : l.pass ≡ pass_having_seen l.initial.pass l.pass.seat.seen;
  waited : HasSeen l.pass.seat.seen l.initial.pass.seat.number l.initial.pass.seat.seen;
}
