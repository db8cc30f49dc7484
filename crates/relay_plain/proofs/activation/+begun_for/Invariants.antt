-- The recursion goes over the acts before.
use Rattle.std.proofs.Common.{length}
use Rattle.relay_plain.proofs.activation.+begun_for.Given as goal

abbrev pub decreases-begun_for : goal.decreases-begun_for
decreases-begun_for l = length l.log.now
