use Rattle.std.proofs.Common.{◌-◌, length}
use Rattle.audit_fields.proofs.FieldMessageFirst.{IsBefore}
use Rattle.audit_fields.proofs.compare.before_field.Given as goal

abbrev pub invariant-messages : goal.invariant-messages
invariant-messages l = IsBefore l.told l.at

abbrev pub decreases-messages : goal.decreases-messages
decreases-messages l = length l.told - l.at
