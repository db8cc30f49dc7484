-- The recursion goes over the acts before.
use Rattle.std.proofs.Common.{length}
use Rattle.relay_plain.proofs.popups.+area.Given as goal

abbrev pub decreases-area : goal.decreases-area
decreases-area l = length l.log.now
