-- The recursion goes over the acts before.
use Rattle.std.proofs.Common.{length}
use Rattle.relay_plain.proofs.focus.+focus_since.Given as goal

abbrev pub decreases-focus_since : goal.decreases-focus_since
decreases-focus_since l = length l.log.now
