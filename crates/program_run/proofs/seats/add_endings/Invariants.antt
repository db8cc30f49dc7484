use Rattle.std.proofs.Common.{◌≡◌, ◌≤◌, ◌+◌, ◌-◌, ◌++◌, drop, length, string_bytes}
use Rattle.program_run.specs.Seats.{seats_endings}
use Rattle.program_run.proofs.seats.add_endings.Given as goal

abbrev pub invariant-loop-place : goal.invariant-loop-place
invariant-loop-place l =
    (l.place ≤ length l.set.seats)
    × (string_bytes l.text ++ seats_endings (l.place + 1) (drop l.place l.set.seats)
    ≡ string_bytes l.fn.text ++ seats_endings 1 l.set.seats)

abbrev pub decreases-loop-place : goal.decreases-loop-place
decreases-loop-place l = length l.set.seats - l.place
