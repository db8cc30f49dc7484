-- The recursion goes over the acts before.
use Rattle.std.proofs.Common.{length}
use Rattle.relay_plain.proofs.boards.+board_down.Given as goal

abbrev pub decreases-board_down : goal.decreases-board_down
decreases-board_down l = length l.log.now
