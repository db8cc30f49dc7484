use Rattle.std.proofs.Common.{◌≡◌, ◌≤◌, length, drop, None}
use Rattle.broker_model.specs.Ends.{store_at}
use Rattle.broker_model.proofs.left.place_of.Given as goal

-- nothing is of the number from the place on
abbrev pub invariant-loop-place : goal.invariant-loop-place
invariant-loop-place l =
    record {
      within : l.place ≤ length l.left;
      none : store_at l.number (drop l.place l.left) ≡ None;
    }

abbrev pub decreases-loop-place : goal.decreases-loop-place
decreases-loop-place l = l.place
