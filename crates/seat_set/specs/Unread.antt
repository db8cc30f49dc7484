-- What is found in bytes of a peer, behind those that it sent before.
use Rattle.std.specs.Prelude.{◌≡◌, ℕ, ◌<◌, ◌≤◌, List, [], ◌∷◌, length, drop}
use Rattle.wl_wire.specs.Messages.{behind}
use Rattle.wl_wire.specs.Streams.{begun}
use Rattle.broker_steps.specs.declared.step.PeerStep.{PeerStep}
use Rattle.broker_steps.specs.Ranges.{IsPeerStep}
use Rattle.broker_steps.specs.declared.step.PeerStep.TheVariants as peers
use Rattle.broker_model.specs.declared.journal.Entry.TheVariants as entries
use Rattle.broker_core.specs.Broker.{peer_entry}
use Rattle.seat_set.specs.declared.unread.Found.{Found}
use Rattle.seat_set.specs.declared.unread.Found.TheVariants.{Message, Nothing, BadSize}
use Rattle.seat_set.specs.declared.unread.Unread.{Unread}
use Rattle.broker_cutter.specs.Steps.{steps_in}
use Rattle.seat_set.specs.Played.{Waiting}

-- the bytes that a peer's next piece goes on from
abbrev pub waiting : Unread → Waiting
waiting u = record { number = u.number; bytes = begun u.cutter }

-- the message that bytes begin with: its step comes first, and its bytes are gone from what is left
pub record IsFirst (q : ℕ) (bytes piece : List ℕ) (step : PeerStep) (used : ℕ)
    (left : List ℕ) : Type 0 where
  pub some : 0 < used
  pub within : used ≤ length piece
  pub valid : IsPeerStep step
  pub steps : steps_in q bytes ≡ peer_entry q step ∷ steps_in q (drop used piece)
  pub behind_same : behind bytes ≡ behind (drop used piece)
  pub none_left : left ≡ []

-- bytes that give no step yet, and wait for more
pub record IsUnfinished (q : ℕ) (bytes left : List ℕ) : Type 0 where
  pub steps : steps_in q bytes ≡ []
  pub all_behind : behind bytes ≡ bytes
  pub all_left : left ≡ bytes

-- a header with a bad size, the last step of bytes
pub record IsLast (q : ℕ) (bytes : List ℕ) (step : PeerStep) : Type 0 where
  pub head : List ℕ
  pub is : step ≡ peers.BadSize head
  pub valid : IsPeerStep step
  pub steps : steps_in q bytes ≡ entries.BadSize q head ∷ []

abbrev pub Finds : ℕ → List ℕ → List ℕ → Found → List ℕ → Type 0
Finds q bytes piece (Message step used) left = IsFirst q bytes piece step used left
Finds q bytes piece Nothing left = IsUnfinished q bytes left
Finds q bytes piece (BadSize step) left = IsLast q bytes step
