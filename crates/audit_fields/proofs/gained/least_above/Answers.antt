use Rattle.std.proofs.Common.{refl}
use Rattle.audit_fields.specs.Gathering.{IsLeast}
use Rattle.audit_fields.proofs.NumbersLost.{one_more}
use Rattle.audit_fields.proofs.gained.least_above.Goals as goal

pub loop-number-preserved : goal.loop-number-preserved
loop-number-preserved c =
    one_more (λ l. IsLeast l c.args.above c.args.most c.lesser-least.result) c.args.gained.now
    c.loop-number.number-index 0 _
    c.loop-number-test.true refl (c.lesser-least.ensures _ c.loop-number.invariant)
