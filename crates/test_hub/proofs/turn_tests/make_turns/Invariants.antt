use Rattle.std.proofs.Common.{◌≡◌}
use Rattle.test_hub.proofs.turn_tests.make_turns.Given as goal

-- the seat is the lock's, and keeps its number
abbrev pub invariant-loop-value : goal.invariant-loop-value
invariant-loop-value g l = (l.seat.turn ≡ l.turn) × (l.seat.number ≡ l.number)
