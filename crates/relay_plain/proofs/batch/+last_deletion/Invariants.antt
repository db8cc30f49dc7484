-- The recursion goes over the acts before.
use Rattle.std.proofs.Common.{length}
use Rattle.relay_plain.proofs.batch.+last_deletion.Given as goal

abbrev pub decreases-last_deletion : goal.decreases-last_deletion
decreases-last_deletion l = length l.log.now
