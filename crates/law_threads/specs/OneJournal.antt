-- What writers took and their links gained, by the one journal of the whole run
use Rattle.std.specs.Prelude.{◌≡◌, ℕ, ◌≤◌, List, [], ◌∷◌, length, map, sum, Option, Some}
use Rattle.trial_script.specs.Io.{StaysQuiet}
use Rattle.broker_steps.specs.declared.limits.Limits.{Limits}
use Rattle.broker_model.specs.declared.journal.Entry.TheVariants as entries
use Rattle.broker_model.specs.Out.{Outgoing}
use Rattle.broker_core.specs.Taking.{out_at}
use Rattle.peer_link.specs.Frames.{spelling}
use Rattle.turn_lock.specs.Pairs.{own, HasSeen}
use Rattle.hub_lock.specs.declared.step.OuterStep.{OuterStep}
use Rattle.hub_lock.specs.Histories.{History, writer_of}
use Rattle.hub_lock.specs.Lawful.{IsLawful}
use Rattle.hub_lock.specs.Passes.{PeerPass}
use Rattle.peer_link.specs.declared.ends.WriteEnd.{WriteEnd}
use Rattle.peer_link.specs.declared.ends.WriteEnd.TheVariants as ends
use Rattle.peer_link.specs.Made.{journal_of}
use Rattle.peer_link.specs.Gains.{Gains}
use Rattle.peer_link.specs.WritesPeer.{frames_of, is_cut, WritesPeer}
use Rattle.serve_jobs.specs.NewLinks.{IsNothing}
use Rattle.serve_jobs.specs.Tags.{Report, End}
use Rattle.serve_jobs.specs.Tags.End.{read, wrote, ordered}
use Rattle.serve_run.specs.Words.{Serving}
use Rattle.serve_run.specs.declared.status.ServeStatus.{ServeStatus}
use Rattle.serve_run.specs.Reported.{IsWriter}
use Rattle.serve_run.specs.ServerLaw.{Sides, ServerLaw}

-- What a writer's link gained, by the one journal. The steps of its pass are takes, of so many bytes
-- each; together these are the first of what the journal puts out for its peer, and all that was
-- taken of that; the link gained their frames, the last of them cut where a write failed. Where it
-- ended as Closed, they are all that the journal puts out.
pub record IsOfJournal (limits : Limits) (h : History) (pass : PeerPass)
    (held held_after : Option (List ℕ)) (end : WriteEnd) : Type 0 where
  pub sizes : List ℕ
  pub made : map (λ (step : OuterStep). step.entry) (own pass.seat.number h)
      ≡ map (λ n. entries.Took pass.peer n) sizes
  pub out : Outgoing
  pub queued : out_at limits.store (journal_of limits h) pass.peer ≡ Some out
  pub front : sum sizes ≤ length out.put.bytes
  pub taken : out.taken ≡ sum sizes
  pub gained : Gains (is_cut end) held held_after (map spelling (frames_of out.put sizes))
  pub all : end ≡ ends.Closed → sum sizes ≡ length out.put.bytes

-- so it is with each pass that has seen a front of a lawful history, which has no later step of it,
-- and that writes for its peer
abbrev pub WritersAreOfOneJournal : Type 0
WritersAreOfOneJournal =
    (limits : Limits) (h : History) (pass : PeerPass) (held held_after : Option (List ℕ))
    (end : WriteEnd) →
    IsLawful limits h → HasSeen h pass.seat.number pass.seat.seen →
    writer_of h pass.peer ≡ Some pass.seat.number →
    WritesPeer limits pass held held_after end → IsOfJournal limits h pass held held_after end

-- a writer's report: its link, which held nothing, gained so by the pass with its number, for its
-- peer
pub record IsReportOfJournal (limits : Limits) (h : History) (r : Report)
    (end : WriteEnd) : Type 0 where
  pub pass : PeerPass
  pub number : pass.seat.number ≡ r.number
  pub peer : pass.peer ≡ r.peer
  pub before : Option (List ℕ)
  pub nothing : IsNothing before
  pub quiet : StaysQuiet before r.held
  pub is : IsOfJournal limits h pass before r.held end

-- so it is with each writer's report that has its loop law for a lawful history
abbrev pub ReportsAreOfOneJournal : Type 0
ReportsAreOfOneJournal =
    (limits : Limits) (h : History) (r : Report) (end : WriteEnd) →
    IsLawful limits h → IsWriter limits h r end → IsReportOfJournal limits h r end

-- of a reader and of a shell it says nothing
abbrev pub OfJournal : Limits → History → Report → End → Type 0
OfJournal limits h r (wrote end) = IsReportOfJournal limits h r end
OfJournal limits h r (read end) = Unit {0}
OfJournal limits h r (ordered end) = Unit {0}

-- each writer's report among these
abbrev pub AreOfJournal : Limits → History → List Report → Type 0
AreOfJournal limits h [] = Unit {0}
AreOfJournal limits h (r ∷ rs) = ∥ OfJournal limits h r r.end ∥₁ × AreOfJournal limits h rs

-- so it is with all that a server reports
abbrev pub ServersWriteOneJournal : Type 0
ServersWriteOneJournal =
    (asked : Serving) (before after : Sides) (status : ServeStatus)
    (law : ServerLaw asked before after status) →
    AreOfJournal asked.limits law.history law.given
