-- The law of a peer's reader: which steps it made of the frames that it read, and how far it read
use Rattle.std.specs.Prelude.{◌≡◌, ◌⊎◌, ◌≤◌, ℕ, List, [], ◌∷◌, ◌++◌, Option, Some}
use Rattle.relay_model.specs.declared.act.EndCause.TheVariants.{Gone}
use Rattle.broker_steps.specs.declared.limits.Limits.{Limits}
use Rattle.broker_model.specs.declared.journal.Entry.{Entry}
use Rattle.broker_model.specs.declared.journal.Entry.TheVariants as entries
use Rattle.broker_core.specs.Stands.{end_of}
use Rattle.desc_frame.specs.declared.Got.{Got}
use Rattle.desc_frame.specs.declared.Got.TheVariants as got
use Rattle.desc_frame.specs.Frames.{Frame}
use Rattle.desc_frame.specs.Answers.{Stops}
use Rattle.hub_lock.specs.Passes.{PeerPass}
use Rattle.peer_link.specs.declared.ends.ReadEnd.{ReadEnd}
use Rattle.peer_link.specs.declared.ends.ReadEnd.TheVariants as ends
use Rattle.peer_link.specs.Made.{entries_by, journal_of, HasSeenFull}
use Rattle.peer_link.specs.LinkSteps.{link_steps, HoldFrames}

-- the step of this entry wasn't taken: it is the next of those that the frames give, the last of
-- the frames completes it, and no byte past that frame was read
pub record StopsAt (q : ℕ) (frames : List Frame) (rest : List ℕ) (made : List Entry)
    (e : Entry) : Type 0 where
  pub before : List Frame
  pub last : Frame
  pub frames_are : frames ≡ before ++ last ∷ []
  pub of_last : List Entry
  pub made_is : made ≡ link_steps q before ++ of_last
  pub more : List Entry
  pub given : link_steps q frames ≡ made ++ e ∷ more
  pub nothing_past : rest ≡ []

-- all steps that the frames give were made, and then no further frame came, as is answered
pub record StopsBy (q : ℕ) (frames : List Frame) (rest : List ℕ) (left : Option (List ℕ))
    (made : List Entry) (why : Got)
    : Type 0 where
  pub all : made ≡ link_steps q frames
  pub stops : Stops why rest left

-- nothing was read and made
pub record BeganNothing (frames : List Frame) (rest : List ℕ) (made : List Entry) : Type 0 where
  pub frames_none : frames ≡ []
  pub rest_none : rest ≡ []
  pub made_none : made ≡ []

-- all steps that the frames give were made, and no byte past them was read
pub record MadeAll (q : ℕ) (frames : List Frame) (rest : List ℕ) (made : List Entry) : Type 0 where
  pub all : made ≡ link_steps q frames
  pub nothing_past : rest ≡ []

-- what was made before the peer had ended: no fault was counted, and all steps that the frames give
-- were made, with no byte past them read or no further frame there, or one wasn't taken; or all were
-- made, and then no frame came since one read failed
abbrev pub MadeBefore : ℕ → List Frame → List ℕ → Option (List ℕ) → (faults : ℕ) → List Entry →
    Type 0
MadeBefore q frames rest left faults made =
    (faults ≡ 0) × (MadeAll q frames rest made
    ⊎ ((why : Got) × StopsBy q frames rest left made why)
    ⊎ ((e : Entry) × StopsAt q frames rest made e))
    ⊎ (faults ≤ 1) × StopsBy q frames rest left made got.ReadFault

-- what each end says of the frames that were read, of the rest behind them, of how many faults were
-- counted and of the entries that were made of the frames
abbrev pub EndsAs : Limits → PeerPass → List Frame → List ℕ → Option (List ℕ) → (faults : ℕ) →
    List Entry → ReadEnd → Type 0
EndsAs limits p frames rest left faults made ends.Closed =
    StopsBy p.peer frames rest left made got.End
EndsAs limits p frames rest left faults made (ends.Torn n) =
    StopsBy p.peer frames rest left made (got.Torn n)
EndsAs limits p frames rest left faults made (ends.BadFrame n t) =
    StopsBy p.peer frames rest left made (got.BadFrame n t)
EndsAs limits p frames rest left faults made ends.ReadFault =
    StopsBy p.peer frames rest left made got.ReadFault
EndsAs limits p frames rest left faults made (ends.Ended cause) =
    (end_of (journal_of limits p.seat.seen) p.peer ≡ Some cause)
    × MadeBefore p.peer frames rest left faults made
EndsAs limits p frames rest left faults made (ends.JournalFull kept) =
    (e : Entry) × StopsAt p.peer frames rest made e × HasSeenFull limits p.seat.seen e kept
EndsAs limits p frames rest left faults made ends.NoMemory =
    BeganNothing frames rest made ⊎ (e : Entry) × StopsAt p.peer frames rest made e

-- no fault was counted where the link ended so: where the peer had ended, one may have been
-- (MadeBefore)
abbrev pub TellsNoFault : ReadEnd → Type 0
TellsNoFault ends.ReadFault = ⊥
TellsNoFault (ends.Ended cause) = ⊥
TellsNoFault _ = Unit {0}

-- the end of the link, unless its peer had ended
abbrev pub gone_after : ℕ → ReadEnd → List Entry
gone_after q (ends.Ended cause) = []
gone_after q _ = entries.End q Gone ∷ []

-- Of the bytes that were read, these are the frames and that the rest behind them, and so many
-- faults were counted. The pass's entries are a prefix of the steps that the frames give, in order,
-- and then that the link is gone, unless its peer had ended.
pub record ReadsPeer (limits : Limits) (pass : PeerPass) (read : List ℕ) (left : Option (List ℕ))
    (faults : ℕ) (end : ReadEnd)
    : Type 0 where
  pub frames : List Frame
  pub rest : List ℕ
  pub holds : HoldFrames read frames rest
  pub made : List Entry
  pub entries : entries_by pass.seat ≡ made ++ gone_after pass.peer end
  pub ends : EndsAs limits pass frames rest left faults made end
