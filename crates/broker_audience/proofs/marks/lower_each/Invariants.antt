use Rattle.std.proofs.Common.{◌≡◌, map, take, drop, ◌++◌}
use Rattle.broker_audience.specs.Marks.{lowered}
use Rattle.broker_audience.proofs.marks.lower_each.Given as goal

abbrev pub invariant-loop-each : goal.invariant-loop-each
invariant-loop-each l = l.places ≡ map (lowered l.left) (take l.each-index l.fn.places) ++ drop l.each-index l.fn.places
