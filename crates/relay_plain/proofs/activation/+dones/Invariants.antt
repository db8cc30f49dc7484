-- The recursion goes over the acts before.
use Rattle.std.proofs.Common.{length}
use Rattle.relay_plain.proofs.activation.+dones.Given as goal

abbrev pub decreases-dones : goal.decreases-dones
decreases-dones l = length l.log.now
