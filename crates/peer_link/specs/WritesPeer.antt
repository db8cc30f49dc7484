-- The law of a peer's writer: what it took, and what its sink gained of it
use Rattle.std.specs.Prelude.{◌≡◌, ℕ, ◌+◌, ◌≤◌, List, [], ◌∷◌, length, map, filter, take, drop, sum, Bool, true, false, ◌&&◌, nat_le, nat_lt, Option, Some}
use Rattle.std.specs.List.{AllByRecursion}
use Rattle.relay_model.specs.declared.act.EndCause.{EndCause}
use Rattle.broker_steps.specs.declared.limits.Limits.{Limits}
use Rattle.broker_steps.specs.Ranges.{IsWithin}
use Rattle.broker_model.specs.declared.journal.Entry.TheVariants as entries
use Rattle.broker_model.specs.Groups.{Piece}
use Rattle.broker_model.specs.Out.{Outgoing}
use Rattle.broker_core.specs.Broker.{full_in}
use Rattle.broker_core.specs.Stands.{end_of}
use Rattle.broker_core.specs.Taking.{out_at}
use Rattle.desc_frame.specs.Frames.{Frame, frame, spelling}
use Rattle.hub_lock.specs.Passes.{PeerPass}
use Rattle.peer_link.specs.declared.ends.WriteEnd.{WriteEnd}
use Rattle.peer_link.specs.declared.ends.WriteEnd.TheVariants as ends
use Rattle.peer_link.specs.Made.{entries_by, journal_of, IsAtLimit}
use Rattle.peer_link.specs.Gains.{Gains}

-- the tokens whose message begins in the n bytes from `at` on
abbrev pub tokens_within : Piece → (at n : ℕ) → List ℕ
tokens_within put at n =
    map (λ t. t.token) (filter (λ t. nat_le at t.offset && nat_lt t.offset (at + n)) put.tokens)

-- the frame of a take of the n bytes from `at` on
abbrev pub frame_at : Piece → (at n : ℕ) → Frame
frame_at put at n = frame (take n (drop at put.bytes)) (tokens_within put at n)

-- the frames of takes of so many bytes each, one after the other
abbrev pub frames_from : Piece → (at : ℕ) → (sizes : List ℕ) → List Frame
frames_from put at [] = []
frames_from put at (n ∷ sizes) = frame_at put at n ∷ frames_from put (at + n) sizes

abbrev pub frames_of : Piece → (sizes : List ℕ) → List Frame
frames_of put sizes = frames_from put 0 sizes

-- a write failed
abbrev pub is_cut : WriteEnd → Bool
is_cut ends.WriteFault = true
is_cut _ = false

-- Closed: the peer has ended, and all that was out for it was taken. JournalFull: full for a take,
-- and at its limit.
abbrev pub EndsAs : Limits → PeerPass → Outgoing → List ℕ → WriteEnd → Type 0
EndsAs limits p out sizes ends.Closed =
    ((cause : EndCause) × (end_of (journal_of limits p.seat.seen) p.peer ≡ Some cause))
    × (sum sizes ≡ length out.put.bytes)
EndsAs limits p out sizes (ends.JournalFull kept) =
    (full_in limits (journal_of limits p.seat.seen) (entries.Took p.peer 0) ≡ Some kept)
    × IsAtLimit limits (journal_of limits p.seat.seen)
EndsAs limits p out sizes ends.WriteFault = Unit {0}
EndsAs limits p out sizes ends.NoMemory = Unit {0}

-- The pass's takes took so many bytes each. Together they are the first of what the journal that it
-- has seen puts out for the peer, and all that was taken of that. The sink gained one frame for
-- each take; at a failed write, and only there, the last is cut. It ended as the end says.
pub record WritesPeer (limits : Limits) (pass : PeerPass) (held held_after : Option (List ℕ))
    (end : WriteEnd)
    : Type 0 where
  pub sizes : List ℕ
  pub each : AllByRecursion (IsWithin 4096) sizes
  pub takes : entries_by pass.seat ≡ map (λ n. entries.Took pass.peer n) sizes
  pub out : Outgoing
  pub queued : out_at limits.store (journal_of limits pass.seat.seen) pass.peer ≡ Some out
  pub front : sum sizes ≤ length out.put.bytes
  pub taken : out.taken ≡ sum sizes
  pub gained : Gains (is_cut end) held held_after (map spelling (frames_of out.put sizes))
  pub ends : EndsAs limits pass out sizes end
