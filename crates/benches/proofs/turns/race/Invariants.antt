use Rattle.std.proofs.Common.{◌≡◌, ◌+◌}
use Rattle.benches.proofs.turns.race.Given as goal

-- the root is the lock's, and gave away so many numbers
abbrev pub invariant-loop-made : goal.invariant-loop-made
invariant-loop-made g l = (l.root.turn ≡ l.shared) × (l.root.number ≡ 0) × (l.root.next ≡ l.made + 1)
