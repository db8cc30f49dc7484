use Rattle.std.proofs.Common.{◌≡◌, ◌≤◌, ℕ, true, false, length, get_or, take}
use Rattle.broker_audience.specs.declared.live.Live.{Live}
use Rattle.broker_audience.specs.Marks.{is_marked, AreWithin}
use Rattle.broker_audience.proofs.listeners.note_choked.Given as goal

-- of those at the marked places so far the choked ones are marked
abbrev pub invariant-loop-place : goal.invariant-loop-place
invariant-loop-place l = record {
  kept : (k : ℕ) → is_marked k l.due.places ≡ false → is_marked k l.fn.due.places ≡ false;
  choked : (k : ℕ) (d : Live) → is_marked k (take l.place-index l.told) ≡ true → is_marked k l.due.places ≡ false →
      (get_or l.peers.items k d).is_choked ≡ false;
  within : AreWithin 0 (length l.peers.items) l.fn.due.places → AreWithin 0 (length l.peers.items) l.due.places;
  bound : l.fn.due.bound ≤ l.due.bound;
}
