-- The recursion goes over the acts before.
use Rattle.std.proofs.Common.{length}
use Rattle.relay_plain.proofs.keys.+last_keymap.Given as goal

abbrev pub decreases-last_keymap : goal.decreases-last_keymap
decreases-last_keymap l = length l.log.now
