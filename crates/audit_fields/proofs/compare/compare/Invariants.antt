use Rattle.std.proofs.Common.{◌-◌, length}
use Rattle.audit_fields.proofs.StreamsCompared.{IsOnWay}
use Rattle.audit_fields.proofs.compare.compare.Given as goal

abbrev pub invariant-messages : goal.invariant-messages
invariant-messages l = IsOnWay l.told l.sent l.gone l.at l.dones

abbrev pub decreases-messages : goal.decreases-messages
decreases-messages l = length l.sent - l.at
