-- The server law: what a run of the server makes of the net, the spawner and the output
use Rattle.std.specs.Prelude.{◌≡◌, ◌≢◌, ◌⊎◌, ℕ, ◌+◌, ◌-◌, ◌≤◌, Bool, true, List, [], ◌∷◌, ◌++◌, length, map, take, drop, Option, Result, Err, OnOk, IfErr}
use Rattle.std.specs.Io.KnownBytes.{Appends}
use Rattle.wio_core.specs.Io.{Rose}
use Rattle.turn_lock.specs.Pairs.{own}
use Rattle.broker_model.specs.declared.journal.Entry.{Entry}
use Rattle.broker_model.specs.declared.journal.Entry.TheVariants as entries
use Rattle.hub_lock.specs.Histories.{History, broker_of}
use Rattle.hub_lock.specs.Lawful.{IsLawful}
use Rattle.peer_link.specs.Made.{journal_of, IsAtLimit}
use Rattle.serve_record.specs.Recorded.{recorded}
use Rattle.serve_net.specs.declared.door.Door.{Door}
use Rattle.serve_jobs.specs.Tags.{Tag, Report}
use Rattle.serve_words.specs.Words.{Serving, doors_of}
use Rattle.serve_record.specs.Lines.{GainsFront}
use Rattle.serve_run.specs.declared.status.ServeStatus.{ServeStatus}
use Rattle.serve_run.specs.declared.status.ServeStatus.TheVariants as statuses
use Rattle.serve_run.specs.declared.stop.Stop.{Stop}
use Rattle.serve_run.specs.declared.stop.Stop.TheVariants as stops
use Rattle.serve_run.specs.LinkJobs.{StepsAreOf, job_reported, jobs_of, joins_of, passes_of}
use Rattle.serve_run.specs.Opened.{AreOpened}
use Rattle.serve_run.specs.Reported.{HaveLaws}
use Rattle.serve_run.specs.Started.{MayLack}
use Rattle.serve_run.specs.Refused.{JoinedUnless}
use Rattle.serve_run.specs.Statuses.{status_by, worst}
use Rattle.serve_run.specs.Unserved.{AreUnserved}

-- what is seen of the net, the spawner and the output at one moment
pub record Sides : Type 0 where
  pub opened : Door → Bool
  pub listens : List (Door × ℕ)
  pub links : List Door
  pub hung_up : ℕ
  pub net_faults : ℕ
  pub started : List Tag
  pub reports : List Report
  pub before_start : ℕ
  pub refusals : ℕ
  pub held : Option (List ℕ)
  pub output_faults : ℕ

abbrev pub sides : (Door → Bool) → List (Door × ℕ) → List Door → ℕ → ℕ → List Tag → List Report →
    ℕ → ℕ → Option (List ℕ) → ℕ → Sides
sides opened listens links hung_up net_faults started reports before_start refusals held
    output_faults =
    record {
      opened = opened;
      listens = listens;
      links = links;
      hung_up = hung_up;
      net_faults = net_faults;
      started = started;
      reports = reports;
      before_start = before_start;
      refusals = refusals;
      held = held;
      output_faults = output_faults;
    }

-- the recorded session of a history
abbrev pub text_of : Serving → History → List ℕ
text_of asked h =
    let b = broker_of asked.limits h in recorded asked.limits b.journal b.stamps

-- the text went out, or a front of it where the output failed or memory lacked
abbrev pub IsWritten : ServeStatus → (held held_after : Option (List ℕ)) → (text : List ℕ) → Type 0
IsWritten statuses.WriteFault held held_after text = GainsFront held held_after text
IsWritten statuses.NoMemory held held_after text = GainsFront held held_after text
IsWritten _ held held_after text = Appends held held_after text

-- a step that joins a peer is the root's
abbrev pub IsRootIfJoin : ℕ → Entry → Type 0
IsRootIfJoin n (entries.Join role) = n ≡ 0
IsRootIfJoin n _ = Unit {0}

-- so it is with each step of the history
abbrev pub OnlyRootJoins : History → Type 0
OnlyRootJoins [] = Unit {0}
OnlyRootJoins (s ∷ rest) = IsRootIfJoin s.0 s.1.entry × OnlyRootJoins rest

-- One hub served. Its journal is that of the history, whose steps have the numbers of the passes
-- that made them.
pub record ServerLaw (asked : Serving) (before after : Sides) (status : ServeStatus) : Type 0 where
  -- the journal is the history of its outer steps, and what is written is its recorded session
  pub history : History
  pub lawful : IsLawful asked.limits history
  pub written : IsWritten status before.held after.held (text_of asked history)
  -- why the accepting stopped, if it did
  pub stop : Result (Unit {0}) Stop
  -- the doors were opened first, in order, each once, or the first of them
  pub opened : AreOpened before.links after.links before.listens after.listens stop
  -- the links came through the doors of the first letters
  pub accepted : ℕ
  pub within : accepted ≤ length asked.order
  pub doors : after.links ≡ before.links ++ take accepted (doors_of asked.order)
  -- each was hung up, where the record couldn't be written too
  pub hung_up : after.hung_up ≡ length after.links
  -- each was joined, or all but the last; the root's steps are the joins of these, in order, there
  -- are no other joins, and each other step is of the pass of a job of these links
  pub joined : ℕ
  pub none_more : joined ≤ accepted
  pub near : accepted ≤ joined + 1
  pub refused : JoinedUnless asked.limits history asked.order joined accepted stop
  pub joins : own 0 history ≡ joins_of 1 (take joined asked.order)
  pub only_root : OnlyRootJoins history
  pub of_links : StepsAreOf (jobs_of 1 (length before.links + 1) (take joined asked.order)) history
  -- the results that came are those of a reader and a writer of each peer that joined, both of its
  -- link, and of each shell, in order; of the last link some may lack. Each has its loop law.
  pub given : List Report
  pub reports : after.reports ≡ before.reports ++ given
  pub served : ℕ
  pub are : map job_reported given
      ≡ take served (jobs_of 1 (length before.links + 1) (take joined asked.order))
  pub before_last : passes_of (take (joined - 1) asked.order) ≤ served
  pub laws : HaveLaws asked.limits history given
  -- some lack only where memory or a thread did, and no join was refused; of those a reader's pass
  -- says that its link is gone, and nothing else, and no other pass says anything
  pub lacks : (served ≡ passes_of (take joined asked.order))
      ⊎ (IfErr stop MayLack × (joined ≡ accepted))
  pub unserved : AreUnserved asked.limits history
      (drop served (jobs_of 1 (length before.links + 1) (take joined asked.order)))
  -- as many came as jobs were started, none of them before the last start
  pub as_many : length after.started ≡ length before.started + length given
  pub starts : (after.before_start ≡ before.before_start)
      ⊎ (after.before_start ≡ length before.reports)
  -- what a stop tells, and what the status is
  pub all_accepted : OnOk stop (accepted ≡ length asked.order)
  pub all_joined : OnOk stop (joined ≡ accepted)
  pub all_served : OnOk stop (served ≡ passes_of asked.order)
  pub all_open : OnOk stop ((d : Door) → after.opened d ≡ true)
  pub net : stop ≡ Err stops.NetFault → Rose before.net_faults after.net_faults
  pub threads : stop ≡ Err stops.NoThread → Rose before.refusals after.refusals
  pub write : status ≡ statuses.WriteFault → Rose before.output_faults after.output_faults
  -- no other answer hides an accept, start or write that failed
  pub no_net : stop ≢ Err stops.NetFault → after.net_faults ≡ before.net_faults
  pub no_thread : stop ≢ Err stops.NoThread → after.refusals ≡ before.refusals
  pub no_write : status ≢ statuses.WriteFault → after.output_faults ≡ before.output_faults
  -- a full journal is at its limit: of entries, or of weight with the heaviest step
  pub full : status ≡ statuses.JournalFull →
      IsAtLimit asked.limits (journal_of asked.limits history)
  pub status_is : (status ≡ status_by stop (worst given))
      ⊎ ((status ≡ statuses.WriteFault) ⊎ (status ≡ statuses.NoMemory))
