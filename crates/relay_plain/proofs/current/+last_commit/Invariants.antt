-- The recursion goes over the acts before.
use Rattle.std.proofs.Common.{length}
use Rattle.relay_plain.proofs.current.+last_commit.Given as goal

abbrev pub decreases-last_commit : goal.decreases-last_commit
decreases-last_commit l = length l.log.now
