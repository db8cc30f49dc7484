use Rattle.std.proofs.Common.{◌≡◌, ◌++◌, length}
use Rattle.wl_wire.specs.Streams.{begun}
use Rattle.hub_lock.specs.Calls.{pass_having_seen}
use Rattle.peer_link.specs.Made.{SawMore}
use Rattle.peer_link.proofs.MessagesMade.{OnWay}
use Rattle.peer_link.proofs.messages.submit_messages.Given as goal

-- what is left of the piece gives the rest of its steps
abbrev pub invariant-messages : goal.invariant-messages
invariant-messages g l = record {
  pass : l.pass ≡ pass_having_seen l.initial.pass l.pass.seat.seen;
  saw : SawMore l.hub.limits l.initial.pass.seat.seen l.pass.seat.seen;
  way : OnWay l.initial.pass.peer (begun l.initial.cutter ++ l.piece) (begun l.cutter ++ l.rest) l.initial.pass l.pass;
}

-- each message leaves fewer bytes
abbrev pub decreases-messages : goal.decreases-messages
decreases-messages g l = length l.rest
