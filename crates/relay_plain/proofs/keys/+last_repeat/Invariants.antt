-- The recursion goes over the acts before.
use Rattle.std.proofs.Common.{length}
use Rattle.relay_plain.proofs.keys.+last_repeat.Given as goal

abbrev pub decreases-last_repeat : goal.decreases-last_repeat
decreases-last_repeat l = length l.log.now
