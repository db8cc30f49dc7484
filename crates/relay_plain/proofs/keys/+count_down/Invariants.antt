-- The recursion goes over the other keys.
use Rattle.std.proofs.Common.{length}
use Rattle.relay_plain.proofs.keys.+count_down.Given as goal

abbrev pub decreases-count_down : goal.decreases-count_down
decreases-count_down l = length l.keys.now
