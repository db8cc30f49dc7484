-- What a job's reader submitted, and why a job ended
use Rattle.std.specs.Prelude.{◌≡◌, ◌⊎◌, ◌≤◌, ℕ, List, ◌∷◌, ◌++◌, length, map, Some, None}
use Rattle.relay_model.specs.declared.act.EndCause.{EndCause}
use Rattle.relay_model.specs.declared.role.Role.{Role}
use Rattle.broker_steps.specs.declared.limits.Limits.{Limits}
use Rattle.broker_model.specs.declared.journal.Entry.{Entry}
use Rattle.broker_model.specs.declared.journal.Entry.TheVariants as entries
use Rattle.broker_model.specs.declared.journal.Kept.{Kept}
use Rattle.broker_model.specs.Ids.{Joined, peer_at}
use Rattle.broker_model.specs.Resolve.{past_of}
use Rattle.hub_calls.specs.Stands.{end_of}
use Rattle.client_side.specs.Messages.{Sent, spelled}
use Rattle.hub_lock.specs.Pairs.{NoneOf}
use Rattle.hub_lock.specs.Passes.{HubId, PeerPass, IsOf, journal_seen}
use Rattle.hub_lock.specs.Calls.{pass_having_seen}
use Rattle.hub_calls.specs.Made.{entries_by, journal_by, SawMore, HasEnded, IsFullFor}
use Rattle.hub_calls.specs.Submitted.{entries_in}
use Rattle.hub_calls.specs.Taken.{HasAll}
use Rattle.trial_typing.specs.Fronts.{IsFrontOf}

-- one of the peer's passes has seen its end
abbrev pub IsOver : Limits → (reader writer : PeerPass) → Type 0
IsOver limits reader writer =
    (cause : EndCause) × (HasEnded limits reader cause ⊎ HasEnded limits writer cause)

-- these bytes are all that was put for the writer's peer, and the peer lives, as far as the writer
-- has seen
pub record IsCaughtUp (limits : Limits) (writer : PeerPass) (bytes : List ℕ) : Type 0 where
  pub all : HasAll limits writer bytes
  pub lives : end_of (journal_by limits writer) writer.peer ≡ None

-- the reader's steps are these messages, or the first of them where the peer ended
abbrev pub HasSent : Limits → (reader writer : PeerPass) → List Sent → Type 0
HasSent limits reader writer sent =
    (entries_by reader.seat ≡ entries_in reader.peer (spelled sent))
    ⊎ (IsFrontOf (entries_by reader.seat) (entries_in reader.peer (spelled sent))
    × IsOver limits reader writer)

-- the first of these messages
abbrev pub HasSentFront : PeerPass → List Sent → Type 0
HasSentFront reader sent =
    IsFrontOf (entries_by reader.seat) (entries_in reader.peer (spelled sent))

-- the reader's steps are these messages, or the first of them where it has seen its peer's end
abbrev pub HasMade : Limits → PeerPass → List Sent → Type 0
HasMade limits reader sent =
    (entries_by reader.seat ≡ entries_in reader.peer (spelled sent))
    ⊎ (HasSentFront reader sent × ((cause : EndCause) × HasEnded limits reader cause))

-- Both passes are the hub's and one peer's, which joined in this role. The reader submitted the
-- set-up and nothing else; the writer took nothing.
pub record IsBegun (hub : HubId) (role : Role) (reader writer : PeerPass)
    (setup : List Sent) : Type 0 where
  pub reads : IsOf hub reader.seat
  pub writes : IsOf hub writer.seat
  pub one_peer : writer.peer ≡ reader.peer
  pub peer : Joined
  pub joined : peer_at (past_of (journal_by hub.limits reader)) reader.peer ≡ Some peer
  pub in_role : peer.role ≡ role
  pub sent : HasMade hub.limits reader setup
  pub fresh : NoneOf writer.seat.number writer.seat.seen

-- these bytes are all that was put for the peer, unless it ended
abbrev pub HasHeardAll : Limits → (reader writer : PeerPass) → List ℕ → Type 0
HasHeardAll limits reader writer bytes =
    HasAll limits writer bytes ⊎ IsOver limits reader writer

-- the pass made takes for its peer alone, besides what it had made
pub record MadeTakes (before after : PeerPass) : Type 0 where
  pub counts : List ℕ
  pub made : entries_by after.seat
      ≡ entries_by before.seat ++ map (λ n. entries.Took before.peer n) counts

-- the writer has seen so many entries, and all that the reader has
abbrev pub IsPast : (reader writer : PeerPass) → ℕ → Type 0
IsPast reader writer least = (least ≤ length (journal_seen writer.seat))
    × (length (journal_seen reader.seat) ≤ length (journal_seen writer.seat))

-- both passes have seen more, and are else as before; the writer made takes alone
pub record HaveSeenMore (limits : Limits)
    (reader writer reader_after writer_after : PeerPass) : Type 0 where
  pub same_reader : reader_after ≡ pass_having_seen reader reader_after.seat.seen
  pub same_writer : writer_after ≡ pass_having_seen writer writer_after.seat.seen
  pub reader_saw : SawMore limits reader.seat.seen reader_after.seat.seen
  pub writer_saw : SawMore limits writer.seat.seen writer_after.seat.seen
  pub takes : MadeTakes writer writer_after

-- The journal that the reader has seen is full for one of these messages, and holds so much. It is
-- the next, unless the reader has seen its peer's end.
pub record IsFullForMessage (limits : Limits) (reader : PeerPass) (sent : List Sent)
    (kept : Kept) : Type 0 where
  pub made : List Entry
  pub next : Entry
  pub later : List Entry
  pub all_are : entries_in reader.peer (spelled sent) ≡ made ++ next ∷ later
  pub is_next : (entries_by reader.seat ≡ made)
      ⊎ ((cause : EndCause) × HasEnded limits reader cause)
  pub full : IsFullFor limits reader.seat.seen next kept

-- the journal that the writer has seen is full for a take, and holds so much
abbrev pub IsFullForTake : Limits → PeerPass → Kept → Type 0
IsFullForTake limits writer kept =
    IsFullFor limits writer.seat.seen (entries.Took writer.peer 0) kept
