use Rattle.std.proofs.Common.{◌≡◌, take}
use Rattle.out_store.proofs.long_list.LongList.copy.Given as goal

-- the items so far, the oldest first
abbrev pub invariant-loop-place : goal.invariant-loop-place
invariant-loop-place g l = l.kept.items ≡ take l.place l.self-inside.kept.items
