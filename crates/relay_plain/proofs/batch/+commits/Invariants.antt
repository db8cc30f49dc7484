-- The recursion goes over the acts before.
use Rattle.std.proofs.Common.{length}
use Rattle.relay_plain.proofs.batch.+commits.Given as goal

abbrev pub decreases-commits : goal.decreases-commits
decreases-commits l = length l.log.now
