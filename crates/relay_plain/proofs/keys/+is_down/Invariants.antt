-- The recursion goes over the acts before.
use Rattle.std.proofs.Common.{length}
use Rattle.relay_plain.proofs.keys.+is_down.Given as goal

abbrev pub decreases-is_down : goal.decreases-is_down
decreases-is_down l = length l.log.now
