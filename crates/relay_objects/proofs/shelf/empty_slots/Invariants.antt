use Rattle.std.proofs.Common.{◌≡◌, ◌≤◌, ◌<◌, ℕ, ◌+◌, length, count_by, eqb, take}
use Rattle.slab.specs.Slab.{slab_len, get}
use Rattle.relay_objects.specs.Places.{KeepsOthers, key_at}
use Rattle.relay_objects.proofs.shelf.empty_slots.Given as goal

abbrev pub invariant-loop-place : goal.invariant-loop-place
invariant-loop-place l = record {
  -- the places ahead give what they gave
  ahead : (j : ℕ) → l.place-index ≤ j → j < length l.fn.places →
      get l.slab (key_at l.fn.places j) ≡ get l.fn.slab (key_at l.fn.places j);
  others : KeepsOthers l.fn.slab l.slab l.fn.places l.fn.peer;
  emptied : slab_len l.slab + count_by (λ p. eqb p.peer l.peer) (take l.place-index l.fn.places) ≡ slab_len l.fn.slab;
  capacity : l.slab.capacity ≡ l.fn.slab.capacity;
}
