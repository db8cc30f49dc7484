-- The recursion goes over the acts before.
use Rattle.std.proofs.Common.{length}
use Rattle.relay_plain.proofs.seat.+serving.Given as goal

abbrev pub decreases-serving : goal.decreases-serving
decreases-serving l = length l.log.now
