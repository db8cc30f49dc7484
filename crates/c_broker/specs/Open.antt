-- The peers that may have something to take.
use Rattle.std.specs.Prelude.{◌≡◌, ℕ, ◌<◌, ◌≤◌, List, [], ◌∷◌, length, Bool, false, ◌||◌, ◌==◌, Some}
use Rattle.relay_model.specs.Objects.{is_peer}
use Rattle.broker_model.specs.Ids.{Joined, log_of, peer_at}
use Rattle.broker_model.specs.Resolve.{past_of}
use Rattle.broker_model.specs.Out.{out_for, stored}
use Rattle.broker_core.specs.Broker.{Broker}

-- the peer with the number q joined, is dead, and has nothing stored: it never has something again
pub record IsDone (b : Broker) (q : ℕ) : Type 0 where
  pub peer : Joined
  pub at : peer_at (past_of b.journal) q ≡ Some peer
  pub dead : is_peer (log_of (past_of b.journal)) peer.label ≡ false
  pub none : length (stored (out_for b.limits.store b.journal peer.label)) ≡ 0

-- the number is one of these
abbrev pub has : ℕ → List ℕ → Bool
has q [] = false
has q (x ∷ xs) = (x == q) || has q xs

-- the numbers rise from above the first, and up to the last
abbrev pub Rise : ℕ → List ℕ → ℕ → Type 0
Rise low [] high = Unit {0}
Rise low (x ∷ xs) high = (low < x) × (x ≤ high) × Rise x xs high

-- of the first peers, so many, all that aren't done are among these, which rise
pub record IsOpen (b : Broker) (numbers : List ℕ) (seen : ℕ) : Type 0 where
  pub rise : Rise 0 numbers seen
  pub others : (q : ℕ) → 1 ≤ q → q ≤ seen → has q numbers ≡ false → IsDone b q
