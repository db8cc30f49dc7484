-- The recursion goes over the acts before.
use Rattle.std.proofs.Common.{length}
use Rattle.relay_plain.proofs.hold.+holder.Given as goal

abbrev pub decreases-holder : goal.decreases-holder
decreases-holder l = length l.log.now
