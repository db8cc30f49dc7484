-- What the passes made whose jobs weren't started
use Rattle.std.specs.Prelude.{◌≡◌, ℕ, List, [], ◌∷◌, Some}
use Rattle.relay_model.specs.declared.act.EndCause.{EndCause}
use Rattle.relay_model.specs.declared.act.EndCause.TheVariants.{Gone}
use Rattle.broker_steps.specs.declared.limits.Limits.{Limits}
use Rattle.broker_model.specs.declared.journal.Entry.{Entry}
use Rattle.broker_model.specs.declared.journal.Entry.TheVariants as entries
use Rattle.broker_core.specs.Stands.{end_of}
use Rattle.turn_lock.specs.Pairs.{NoneOf, HasSeen}
use Rattle.hub_lock.specs.Histories.{History, reader_of}
use Rattle.hub_lock.specs.Passes.{PeerPass}
use Rattle.peer_link.specs.Made.{entries_by, journal_of}
use Rattle.serve_jobs.specs.Tags.{Part}
use Rattle.serve_jobs.specs.Tags.Part.{reader, writer, shell}
use Rattle.serve_run.specs.LinkJobs.{LinkedJob}

-- all that the pass said is that its peer's link is gone
abbrev pub SaysGone : PeerPass → Type 0
SaysGone p = entries_by p.seat ≡ entries.End p.peer Gone ∷ []

-- the journal has an end of the peer
abbrev pub HasEnd : List Entry → ℕ → Type 0
HasEnd journal q = (cause : EndCause) × (end_of journal q ≡ Some cause)

-- so it is in the history of the pass with this number, which is its peer's reader's, and the peer
-- has its end
pub record IsGoneAlone (limits : Limits) (h : History) (n : ℕ) : Type 0 where
  pub pass : PeerPass
  pub number : pass.seat.number ≡ n
  pub seen : HasSeen h n pass.seat.seen
  pub reads : reader_of pass.seat.seen pass.peer ≡ Some n
  pub says : SaysGone pass
  pub ended : HasEnd (journal_of limits h) pass.peer

-- a reader that doesn't run says that its link is gone, and any other job nothing
abbrev pub MadeBy : Limits → History → ℕ → Part → Type 0
MadeBy limits h n reader = IsGoneAlone limits h n
MadeBy limits h n writer = NoneOf n h
MadeBy limits h n shell = NoneOf n h

-- the same of each of these jobs
abbrev pub AreUnserved : Limits → History → List LinkedJob → Type 0
AreUnserved limits h [] = Unit {0}
AreUnserved limits h (j ∷ jobs) = MadeBy limits h j.number j.part × AreUnserved limits h jobs

-- the numbers of the passes that came back, the last first: those of these jobs, in order, behind
-- the earlier ones
abbrev pub pushed : List LinkedJob → List ℕ → List ℕ
pushed [] taken = taken
pushed (j ∷ jobs) taken = pushed jobs (j.number ∷ taken)
