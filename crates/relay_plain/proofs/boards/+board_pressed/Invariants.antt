-- The recursion goes over the acts before.
use Rattle.std.proofs.Common.{length}
use Rattle.relay_plain.proofs.boards.+board_pressed.Given as goal

abbrev pub decreases-board_pressed : goal.decreases-board_pressed
decreases-board_pressed l = length l.log.now
