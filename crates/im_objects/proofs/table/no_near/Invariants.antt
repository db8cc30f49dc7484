use Rattle.std.proofs.Common.{◌≡◌, ℕ, ◌<◌, ◌-◌, length, get_or, None, vec_len}
use Rattle.im_objects.proofs.table.no_near.Given as goal

-- nothing so far
abbrev pub invariant-loop-near : goal.invariant-loop-near
invariant-loop-near l = (i : ℕ) → i < length l.near.items → get_or l.near.items i None ≡ None

abbrev pub decreases-loop-near : goal.decreases-loop-near
decreases-loop-near l = 64 - vec_len l.near
