-- The recursion goes over the acts before.
use Rattle.std.proofs.Common.{length}
use Rattle.relay_plain.proofs.keys.+standing_and_serving.Given as goal

abbrev pub decreases-standing_and_serving : goal.decreases-standing_and_serving
decreases-standing_and_serving l = length l.log.now
