-- The recursion goes over the acts before.
use Rattle.std.proofs.Common.{length}
use Rattle.relay_plain.proofs.boards.+board_went.Given as goal

abbrev pub decreases-board_went : goal.decreases-board_went
decreases-board_went l = length l.log.now
