-- What one frame made of a peer's link, and the reading of it before its end is said
use Rattle.std.specs.Prelude.{◌≡◌, ◌≢◌, ◌⊎◌, ◌≤◌, ℕ, List, ◌++◌, Option, Some, None, Result, Ok, Err}
use Rattle.relay_model.specs.declared.act.EndCause.{EndCause}
use Rattle.broker_steps.specs.declared.limits.Limits.{Limits}
use Rattle.wl_wire.specs.Messages.{bad_size_at, behind}
use Rattle.broker_model.specs.declared.journal.Entry.{Entry}
use Rattle.broker_core.specs.Stands.{end_of}
use Rattle.desc_frame.specs.declared.Got.{Got}
use Rattle.desc_frame.specs.declared.Got.TheVariants as got
use Rattle.desc_frame.specs.Frames.{Frame, IsFrame, spelling}
use Rattle.desc_frame.specs.Answers.{Stops}
use Rattle.hub_lock.specs.Passes.{PeerPass}
use Rattle.peer_link.specs.declared.ends.ReadEnd.{ReadEnd}
use Rattle.peer_link.specs.declared.ends.ReadEnd.TheVariants as ends
use Rattle.peer_link.specs.Made.{entries_by, journal_of}
use Rattle.peer_link.specs.LinkSteps.{frame_steps, HoldFrames}
use Rattle.peer_link.specs.Submits.{MadeFirst}
use Rattle.peer_link.specs.ReadsPeer.{EndsAs}

-- the answer to a reading of no frame
abbrev pub got_of : ReadEnd → Option Got
got_of ends.Closed = Some got.End
got_of (ends.Torn n) = Some (got.Torn n)
got_of (ends.BadFrame n t) = Some (got.BadFrame n t)
got_of ends.ReadFault = Some got.ReadFault
got_of _ = None

-- no frame came, and nothing was made
pub record NoFrame (before after : PeerPass) (taken : List ℕ) (left : Option (List ℕ))
    (end : ReadEnd) : Type 0 where
  pub why : Got
  pub is : got_of end ≡ Some why
  pub stops : Stops why taken left
  pub same : entries_by after.seat ≡ entries_by before.seat

-- the peer has ended, and all steps were made before
pub record EndedAfter (limits : Limits) (before after : PeerPass) (steps : List Entry)
    (end : ReadEnd) : Type 0 where
  pub cause : EndCause
  pub is : end ≡ ends.Ended cause
  pub ended : end_of (journal_of limits after.seat.seen) after.peer ≡ Some cause
  pub entries : entries_by after.seat ≡ entries_by before.seat ++ steps

-- the frame whose bytes were taken
pub record OneFrame (taken : List ℕ) (f : Frame) : Type 0 where
  pub is : IsFrame f
  pub spelled : taken ≡ spelling f

-- all steps of a frame were made, or not all were taken, or with the last the peer has ended
abbrev pub MakesFrame : Limits → (before after : PeerPass) → (waiting waiting_after : List ℕ) →
    Frame
    → Result (Unit {0}) ReadEnd → Type 0
MakesFrame limits before after waiting waiting_after f (Ok done) =
    (entries_by after.seat ≡ entries_by before.seat ++ frame_steps before.peer waiting f)
    × (waiting_after ≡ behind (waiting ++ f.bytes)) × (bad_size_at waiting_after ≡ None)
MakesFrame limits before after waiting waiting_after f (Err end) =
    MadeFirst limits before after (frame_steps before.peer waiting f) end
    ⊎ EndedAfter limits before after (frame_steps before.peer waiting f) end

-- what was read: a frame whose steps were made, one whose steps weren't all taken, or none
abbrev pub ReadsFrame : Limits → (before after : PeerPass) →
    (waiting waiting_after taken : List ℕ) → (left : Option (List ℕ))
    → Result (Unit {0}) ReadEnd → Type 0
ReadsFrame limits before after waiting waiting_after taken left (Ok done) =
    (f : Frame) × OneFrame taken f
    × (entries_by after.seat ≡ entries_by before.seat ++ frame_steps before.peer waiting f)
    × (waiting_after ≡ behind (waiting ++ f.bytes)) × (bad_size_at waiting_after ≡ None)
ReadsFrame limits before after waiting waiting_after taken left (Err end) =
    NoFrame before after taken left end
    ⊎ (f : Frame) × OneFrame taken f
    × (MadeFirst limits before after (frame_steps before.peer waiting f) end
    ⊎ EndedAfter limits before after (frame_steps before.peer waiting f) end)

-- the link was read up to its end, which isn't said yet, and so many faults were counted
pub record ReadsLink (limits : Limits) (pass : PeerPass) (read : List ℕ) (left : Option (List ℕ))
    (faults : ℕ) (end : ReadEnd)
    : Type 0 where
  pub frames : List Frame
  pub rest : List ℕ
  pub holds : HoldFrames read frames rest
  pub no_fault : end ≢ ends.ReadFault → faults ≡ 0
  pub few : faults ≤ 1
  pub ends : EndsAs limits pass frames rest left faults (entries_by pass.seat) end
