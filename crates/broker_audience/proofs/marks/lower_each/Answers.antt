use Rattle.std.proofs.Common.{arith}
use Rattle.broker_audience.specs.Marks.{lowered}
use Rattle.relay_objects.proofs.EachChanges.{set_mapped}
use Rattle.broker_audience.proofs.marks.lower_each.Goals as goal

pub loop-each-preserved : goal.loop-each-preserved
loop-each-preserved c =
    rw c.lowered.ensures (set_mapped (lowered c.args.left) c.args.places.now _ _ _ c.loop-each.invariant (omega arith))
