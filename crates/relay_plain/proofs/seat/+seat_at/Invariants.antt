-- The recursion goes over the acts before.
use Rattle.std.proofs.Common.{length}
use Rattle.relay_plain.proofs.seat.+seat_at.Given as goal

abbrev pub decreases-seat_at : goal.decreases-seat_at
decreases-seat_at l = length l.log.now
