-- The recursion goes over the acts before.
use Rattle.std.proofs.Common.{length}
use Rattle.relay_plain.proofs.current.+last_rect.Given as goal

abbrev pub decreases-last_rect : goal.decreases-last_rect
decreases-last_rect l = length l.log.now
