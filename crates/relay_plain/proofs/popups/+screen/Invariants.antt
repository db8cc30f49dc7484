-- The recursion goes over the acts before.
use Rattle.std.proofs.Common.{length}
use Rattle.relay_plain.proofs.popups.+screen.Given as goal

abbrev pub decreases-screen : goal.decreases-screen
decreases-screen l = length l.log.now
