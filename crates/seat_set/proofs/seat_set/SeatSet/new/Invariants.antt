use Rattle.std.proofs.Common.{◌≡◌}
use Rattle.std.specs.Prelude.{replicate}
use Rattle.seat_set.specs.Seats.{fresh}
use Rattle.seat_set.proofs.seat_set.SeatSet.new.Given as goal

abbrev pub invariant-loop-seat : goal.invariant-loop-seat
invariant-loop-seat l = l.seats.items ≡ replicate l._seat (fresh l.limits)
