use Rattle.std.proofs.Common.{take}
use Rattle.audit_fields.specs.Gathering.{IsLeast}
use Rattle.audit_fields.proofs.gained.least_above.Given as goal

abbrev pub invariant-loop-number : goal.invariant-loop-number
invariant-loop-number l = IsLeast (take l.number-index l.gained) l.above l.most l.least
