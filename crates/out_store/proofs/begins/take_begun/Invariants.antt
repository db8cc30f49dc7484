use Rattle.std.proofs.Common.{◌≡◌, ◌+◌, ◌++◌, length, map, take, drop}
use Rattle.circular_buffer.specs.Buffer.{buffer}
use Rattle.out_store.specs.Ring.{offsets, begun_count}
use Rattle.out_store.specs.declared.begins.Begin.{Begin}
use Rattle.out_store.proofs.begins.take_begun.Given as goal

-- the first tokens are moved out
abbrev pub invariant-loop-begin : goal.invariant-loop-begin
invariant-loop-begin l = record {
  left : l.count + begun_count l.n (offsets l.front l.ring.items)
      ≡ begun_count l.n (offsets l.front l.initial.ring.items);
  ring : l.ring ≡ buffer (drop l.count l.initial.ring.items) l.initial.ring.capacity;
  out : l.out ≡ map (λ (begin : Begin). begin.token) (take l.count l.initial.ring.items) ++ drop l.count l.initial.out;
}

abbrev pub decreases-loop-begin : goal.decreases-loop-begin
decreases-loop-begin l = length l.ring.items
