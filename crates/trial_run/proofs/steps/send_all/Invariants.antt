use Rattle.std.proofs.Common.{◌≡◌, length}
use Rattle.wl_wire.specs.Messages.{messages}
use Rattle.trial_run.specs.Steps.{messages_sent}
use Rattle.trial_run.proofs.steps.send_all.Given as goal

-- what is left leads to the same
abbrev pub invariant-messages : goal.invariant-messages
invariant-messages l =
    messages_sent l.number (messages l.rest) l.shared ≡ messages_sent l.number (messages l.fn.bytes) l.fn.shared

abbrev pub decreases-messages : goal.decreases-messages
decreases-messages l = length l.rest
