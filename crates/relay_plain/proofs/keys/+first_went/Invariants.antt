-- The recursion goes over the acts before.
use Rattle.std.proofs.Common.{length}
use Rattle.relay_plain.proofs.keys.+first_went.Given as goal

abbrev pub decreases-first_went : goal.decreases-first_went
decreases-first_went l = length l.log.now
