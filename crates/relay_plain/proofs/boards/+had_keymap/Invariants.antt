-- The recursion goes over the acts before.
use Rattle.std.proofs.Common.{length}
use Rattle.relay_plain.proofs.boards.+had_keymap.Given as goal

abbrev pub decreases-had_keymap : goal.decreases-had_keymap
decreases-had_keymap l = length l.log.now
