-- The recursion goes over the acts before.
use Rattle.std.proofs.Common.{length}
use Rattle.relay_plain.proofs.current.+last_surrounding.Given as goal

abbrev pub decreases-last_surrounding : goal.decreases-last_surrounding
decreases-last_surrounding l = length l.log.now
