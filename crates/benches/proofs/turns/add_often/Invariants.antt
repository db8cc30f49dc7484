use Rattle.std.proofs.Common.{◌≡◌}
use Rattle.benches.proofs.turns.add_often.Given as goal

-- the seat is the lock's, and keeps its number
abbrev pub invariant-loop : goal.invariant-loop
invariant-loop g l = (l.seat.turn ≡ l.turn) × (l.seat.number ≡ l.number)
