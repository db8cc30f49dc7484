-- The recursion goes over the acts before.
use Rattle.std.proofs.Common.{length}
use Rattle.relay_plain.proofs.focus.+last_focus.Given as goal

abbrev pub decreases-last_focus : goal.decreases-last_focus
decreases-last_focus l = length l.log.now
