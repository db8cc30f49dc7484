use Rattle.std.proofs.Common.{◌≡◌, length}
use Rattle.relay_model.specs.declared.act.EndCause.{EndCause}
use Rattle.hub_lock.specs.Calls.{pass_having_seen}
use Rattle.hub_calls.specs.Made.{SawMore, HasEnded}
use Rattle.hub_calls.proofs.MessagesSubmitted.{OnWay}
use Rattle.hub_calls.proofs.submit.submit_messages.Given as goal

-- what is left gives the rest of the messages
abbrev pub invariant-messages : goal.invariant-messages
invariant-messages g l = record {
  pass : l.pass ≡ pass_having_seen l.initial.pass l.pass.seat.seen;
  saw : SawMore l.hub.limits l.initial.pass.seat.seen l.pass.seat.seen;
  idle : (cause : EndCause) → HasEnded l.hub.limits l.initial.pass cause → l.pass ≡ l.initial.pass;
  way : OnWay l.initial.pass.peer l.bytes l.rest l.initial.pass l.pass;
}

-- each message leaves fewer bytes
abbrev pub decreases-messages : goal.decreases-messages
decreases-messages g l = length l.rest
