-- The recursion goes over the acts before.
use Rattle.std.proofs.Common.{length}
use Rattle.relay_plain.proofs.hold.+hold_begun.Given as goal

abbrev pub decreases-hold_begun : goal.decreases-hold_begun
decreases-hold_begun l = length l.log.now
