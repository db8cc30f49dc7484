use Rattle.std.proofs.Common.{◌≤◌, ◌-◌}
use Rattle.memchr.specs.Find.{Nowhere, Passes, is_byte}
use Rattle.session_text.proofs.cutting.near_space.Given as goal

-- no space stands before the place
abbrev pub invariant-loop-at : goal.invariant-loop-at
invariant-loop-at l = record {
  within : l.at ≤ l.near;
  none : Nowhere (Passes (is_byte 32) l.line) 0 l.at;
}

abbrev pub decreases-loop-at : goal.decreases-loop-at
decreases-loop-at l = l.near - l.at
