-- The recursion goes over the other popups.
use Rattle.std.proofs.Common.{length}
use Rattle.relay_plain.proofs.popups.+tell_popups.Given as goal

abbrev pub decreases-tell_popups : goal.decreases-tell_popups
decreases-tell_popups l = length l.popups.now
