-- The recursion goes over the acts before.
use Rattle.std.proofs.Common.{length}
use Rattle.relay_plain.proofs.current.+last_cause.Given as goal

abbrev pub decreases-last_cause : goal.decreases-last_cause
decreases-last_cause l = length l.log.now
