-- The recursion goes over the acts before.
use Rattle.std.proofs.Common.{length}
use Rattle.relay_plain.proofs.batch.+last_string.Given as goal

abbrev pub decreases-last_string : goal.decreases-last_string
decreases-last_string l = length l.log.now
