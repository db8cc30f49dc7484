-- A peer's writer on its way
use Rattle.std.specs.Prelude.{◌≡◌, ◌⊎◌, ℕ, ◌≤◌, List, [], length, map, sum, Bool, false, Option, Some, Result, Ok, Err}
use Rattle.std.specs.List.{AllByRecursion}
use Rattle.std.specs.Io.KnownBytes.{Appends}
use Rattle.broker_steps.specs.declared.limits.Limits.{Limits}
use Rattle.broker_steps.specs.Ranges.{IsWithin}
use Rattle.wl_wire.specs.Messages.{joined}
use Rattle.broker_model.specs.declared.journal.Entry.TheVariants as entries
use Rattle.broker_model.specs.Out.{Outgoing}
use Rattle.broker_core.specs.Taking.{out_at}
use Rattle.desc_frame.specs.Frames.{spelling}
use Rattle.hub_lock.specs.Passes.{PeerPass}
use Rattle.peer_link.specs.declared.ends.WriteEnd.{WriteEnd}
use Rattle.peer_link.specs.Made.{entries_by, journal_of}
use Rattle.peer_link.specs.WritesPeer.{frames_of, is_cut, WritesPeer}

-- the takes so far: what they took is all that was taken of what is out for the peer, and this was
-- gained of their frames
pub record HasTaken (limits : Limits) (pass : PeerPass)
    (Gained : List (List ℕ) → Type 0) : Type 0 where
  pub sizes : List ℕ
  pub each : AllByRecursion (IsWithin 4096) sizes
  pub takes : entries_by pass.seat ≡ map (λ n. entries.Took pass.peer n) sizes
  pub out : Outgoing
  pub queued : out_at limits.store (journal_of limits pass.seat.seen) pass.peer ≡ Some out
  pub front : sum sizes ≤ length out.put.bytes
  pub taken : out.taken ≡ sum sizes
  pub gained : Gained (map spelling (frames_of out.put sizes))

-- nothing was taken yet, or each take was written
abbrev pub Writing : Limits → PeerPass → (held now : Option (List ℕ)) → Type 0
Writing limits pass held now =
    ((entries_by pass.seat ≡ []) × Appends held now [])
    ⊎ HasTaken limits pass (λ pieces. Appends held now (joined pieces))

-- it goes on, or has ended
abbrev pub WritesOn : Limits → PeerPass → (held now : Option (List ℕ)) →
    Result (Unit {0}) WriteEnd → Type 0
WritesOn limits pass held now (Ok done) = Writing limits pass held now
WritesOn limits pass held now (Err end) = WritesPeer limits pass held now end

-- a write failed
abbrev pub has_failed : Result (Unit {0}) WriteEnd → Bool
has_failed (Ok done) = false
has_failed (Err end) = is_cut end
