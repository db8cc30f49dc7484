-- What a peer is sent beside what it's told.
use Rattle.std.specs.List.{slice_get, slice_set}
use Rattle.std.specs.Prelude.{◌≡◌, ℕ, ◌+◌, ◌==◌, List, [], ◌++◌, true, false, if◌then◌else◌, Option, Some, None}
use Rattle.broker_model.specs.declared.journal.Entry.{Entry}
use Rattle.broker_model.specs.Ids.{Joined, peer_at}
use Rattle.broker_model.specs.Resolve.{past_of}
use Rattle.broker_model.specs.Out.{out_for}
use Rattle.audit_fields.specs.Heard.{dones, IsLike}
use Rattle.audit_fields.specs.Comparing.{Comparing, Follows, IsHeard, IsUnheard}
use Rattle.audit_fields.specs.declared.side.Side.{Side}
use Rattle.audit_fields.specs.declared.comparison.HearEnd.{HearEnd}
use Rattle.audit_fields.specs.declared.comparison.HearEnd.TheVariants as ends
use Rattle.audit_fields.specs.Gathering.{Gathering, is_app}
use Rattle.audit_fields.specs.Going.{IsGathered}

-- the peer at a place is an application that heard the bytes: so many dones are whole by them
pub record IsHeardAt (k : ℕ) (bytes : List ℕ) (n : ℕ) (before after : List Side) : Type 0 where
  pub side : Side
  pub at : slice_get before k ≡ Some side
  pub streams : Comparing
  pub is : after ≡ slice_set before k (record side { streams = streams })
  pub heard : (told sent : List ℕ) → Follows told sent side.streams →
      IsHeard told sent bytes n streams

-- or it didn't hear them, and why
pub record IsUnheardAt (k : ℕ) (bytes : List ℕ) (before : List Side) (why : HearEnd) : Type 0 where
  pub side : Side
  pub at : slice_get before k ≡ Some side
  pub unheard : (told sent : List ℕ) → Follows told sent side.streams →
      IsUnheard told (sent ++ bytes) why

-- who joined has these bytes more, if it is the peer with the number; who didn't has none
pub record IsSent (number : ℕ) (bytes : List ℕ) (journal : List Entry)
    (sent after : ℕ → List ℕ) : Type 0 where
  pub joined : (q : ℕ) (peer : Joined) → peer_at (past_of journal) q ≡ Some peer →
      after q ≡ sent q ++ (if number == q then bytes else [])
  pub others : (q : ℕ) → peer_at (past_of journal) q ≡ None → after q ≡ []

-- so many dones are whole by what was sent, which is like what the peer is told, if that is an
-- application
pub record IsHeardBy (told sent bytes : List ℕ) (n : ℕ) : Type 0 where
  pub like : IsLike told (sent ++ bytes)
  pub counted : dones (sent ++ bytes) ≡ dones sent + n

-- to a peer that joined, or to nobody
abbrev pub IsHeardFor : ℕ → ℕ → List ℕ → List Entry → (ℕ → List ℕ) → ℕ → Option Joined → Type 0
IsHeardFor capacity number bytes journal sent n None = n ≡ 0
IsHeardFor capacity number bytes journal sent n (Some peer) =
    (is_app peer.role ≡ true →
    IsHeardBy (out_for capacity journal peer.label).put.bytes (sent number) bytes n)
    × (is_app peer.role ≡ false → n ≡ 0)

-- and it is gathered beside what was told
pub record IsHeardOf (capacity number : ℕ) (bytes : List ℕ) (journal : List Entry)
    (sent : ℕ → List ℕ) (n : ℕ) (after : ℕ → List ℕ) (g : Gathering) : Type 0 where
  pub heard : IsHeardFor capacity number bytes journal sent n (peer_at (past_of journal) number)
  pub gathered : IsGathered capacity after journal g

-- the peer is an application, and what was sent isn't like what it's told
pub record IsOther (capacity number : ℕ) (bytes : List ℕ) (journal : List Entry)
    (sent : ℕ → List ℕ) : Type 0 where
  pub peer : Joined
  pub joined : peer_at (past_of journal) number ≡ Some peer
  pub app : is_app peer.role ≡ true
  pub unlike : IsLike (out_for capacity journal peer.label).put.bytes (sent number ++ bytes) → ⊥

-- why nothing was heard
abbrev pub IsUnlike : ℕ → ℕ → List ℕ → List Entry → (ℕ → List ℕ) → HearEnd → Type 0
IsUnlike capacity number bytes journal sent ends.Unlike = IsOther capacity number bytes journal sent
IsUnlike capacity number bytes journal sent ends.NoMemory = Unit {0}
