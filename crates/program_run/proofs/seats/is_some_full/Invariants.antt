use Rattle.std.proofs.Common.{◌≡◌, ◌≤◌, ◌-◌, drop, length}
use Rattle.program_run.specs.Seats.{some_full}
use Rattle.program_run.proofs.seats.is_some_full.Given as goal

abbrev pub invariant-loop-place : goal.invariant-loop-place
invariant-loop-place l = (l.place ≤ length l.set.seats) × (some_full l.set.seats ≡ some_full (drop l.place l.set.seats))

abbrev pub decreases-loop-place : goal.decreases-loop-place
decreases-loop-place l = length l.set.seats - l.place
