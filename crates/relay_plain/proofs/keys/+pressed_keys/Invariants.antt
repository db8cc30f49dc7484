-- The recursion goes over the acts before.
use Rattle.std.proofs.Common.{length}
use Rattle.relay_plain.proofs.keys.+pressed_keys.Given as goal

abbrev pub decreases-pressed_keys : goal.decreases-pressed_keys
decreases-pressed_keys l = length l.log.now
