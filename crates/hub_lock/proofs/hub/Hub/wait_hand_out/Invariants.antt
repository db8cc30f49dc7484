use Rattle.std.proofs.Common.{◌≡◌, None}
use Rattle.turn_lock.specs.Pairs.{HasSeen}
use Rattle.hub_lock.specs.Recording.{after_handing}
use Rattle.hub_lock.proofs.hub.Hub.wait_hand_out.Given as goal

-- the pass has seen more, and nothing was handed out
abbrev pub invariant-loop : goal.invariant-loop
invariant-loop g l = record {
  pass : l.pass ≡ after_handing l.initial.pass l.pass.seat.seen None;
  waited : HasSeen l.pass.seat.seen l.initial.pass.seat.number l.initial.pass.seat.seen;
}
