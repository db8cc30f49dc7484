use Rattle.std.proofs.Common.{◌≡◌, ◌++◌, take}
use Rattle.circular_buffer.specs.Buffer.{buffer}
use Rattle.out_store.specs.Ring.{placed}
use Rattle.out_store.proofs.begins.add_begins.Given as goal

-- the first tokens are added
abbrev pub invariant-loop-at : goal.invariant-loop-at
invariant-loop-at l =
    l.ring ≡ buffer (l.initial.ring.items ++ placed l.start (take l.at-index l.tokens)) l.initial.ring.capacity
