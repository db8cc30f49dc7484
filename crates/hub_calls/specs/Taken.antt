-- What a writer's takes took: the front of what was put for its peer
use Rattle.std.specs.Prelude.{◌≡◌, ◌⊎◌, ℕ, ◌≤◌, List, [], ◌∷◌, ◌++◌, length, take, None, Some, Result, Ok, Err}
use Rattle.relay_model.specs.declared.act.EndCause.{EndCause}
use Rattle.broker_steps.specs.declared.limits.Limits.{Limits}
use Rattle.broker_steps.specs.Ranges.{IsWithin}
use Rattle.broker_model.specs.declared.journal.Entry.TheVariants as entries
use Rattle.broker_model.specs.Ids.{Joined, peer_at}
use Rattle.broker_model.specs.Out.{Outgoing, out_for}
use Rattle.broker_model.specs.Resolve.{past_of}
use Rattle.broker_core.specs.Stands.{end_of}
use Rattle.hub_lock.specs.Passes.{PeerPass}
use Rattle.hub_calls.specs.declared.stop.PassStop.{PassStop}
use Rattle.hub_calls.specs.declared.stop.PassStop.TheVariants as stops
use Rattle.hub_calls.specs.declared.take.Piece.{Piece}
use Rattle.hub_calls.specs.declared.take.Piece.TheVariants as pieces
use Rattle.hub_calls.specs.Made.{entries_by, journal_by, HasEnded, IsFullFor}

-- These bytes are all that was taken of what the journal puts out for the pass's peer, as far as
-- the pass has seen it: they are its front.
pub record HasFront (limits : Limits) (p : PeerPass) (bytes : List ℕ) : Type 0 where
  pub peer : Joined
  pub there : peer_at (past_of (journal_by limits p)) p.peer ≡ Some peer
  pub out : Outgoing
  pub out_is : out ≡ out_for limits.store (journal_by limits p) peer.label
  pub within : out.taken ≤ length out.put.bytes
  pub front : bytes ≡ take out.taken out.put.bytes

-- the pass's takes took these bytes: it made no take yet, or they are that front
abbrev pub HasTaken : Limits → PeerPass → List ℕ → Type 0
HasTaken limits p bytes =
    ((entries_by p.seat ≡ []) × (bytes ≡ [])) ⊎ HasFront limits p bytes

-- they are all that was put
pub record HasAll (limits : Limits) (p : PeerPass) (bytes : List ℕ) : Type 0 where
  pub taken : HasFront limits p bytes
  pub all : bytes ≡ taken.out.put.bytes

-- A take took what stands at the front of the buffer, behind all that was taken before: as many
-- bytes as fit, or else all that was put.
pub record TakesMore (limits : Limits) (before after : PeerPass) (buf : List ℕ)
    (count : ℕ) : Type 0 where
  pub few : IsWithin 4096 count
  pub entries : entries_by after.seat
      ≡ entries_by before.seat ++ entries.Took before.peer count ∷ []
  pub more : (bytes : List ℕ) → HasTaken limits before bytes →
      HasFront limits after (bytes ++ take count buf)
  pub most : (bytes : List ℕ) → HasTaken limits before bytes →
      (count ≡ 4096) ⊎ HasAll limits after (bytes ++ take count buf)

-- a take took nothing, for this reason
pub record TakesNone (limits : Limits) (before after : PeerPass)
    (Why : List ℕ → Type 0) : Type 0 where
  pub entries : entries_by after.seat ≡ entries_by before.seat
  pub same : (bytes : List ℕ) → HasTaken limits before bytes → HasFront limits after bytes
  pub why : (bytes : List ℕ) → HasTaken limits before bytes → Why bytes

-- Empty and Closed: all that was put was taken, and the peer lives or has ended. JournalFull: the
-- journal is full for a take.
abbrev pub TakesPiece : Limits → PeerPass → PeerPass → (buf : List ℕ) →
    Result Piece PassStop → Type 0
TakesPiece limits before after buf (Ok (pieces.Bytes count)) =
    TakesMore limits before after buf count
TakesPiece limits before after buf (Ok pieces.Empty) =
    TakesNone limits before after (HasAll limits after)
    × (end_of (journal_by limits after) after.peer ≡ None)
TakesPiece limits before after buf (Ok pieces.Closed) =
    TakesNone limits before after (HasAll limits after)
    × ((cause : EndCause) × HasEnded limits after cause)
TakesPiece limits before after buf (Err (stops.JournalFull kept)) =
    TakesNone limits before after (λ bytes. Unit {0})
    × IsFullFor limits after.seat.seen (entries.Took after.peer 0) kept
TakesPiece limits before after buf (Err stops.NoMemory) =
    TakesNone limits before after (λ bytes. Unit {0})
