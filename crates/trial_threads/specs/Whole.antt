-- The law of a whole trial in threads
use Rattle.std.specs.Prelude.{◌≡◌, ◌⊎◌, ◌%◌, ◌^◌, ℕ, List, [], ◌∷◌, Option, Some, None, Result, Ok, Err, IfOk, Bool}
use Rattle.std.specs.List.{AllByRecursion}
use Rattle.broker_steps.specs.declared.limits.Limits.{Limits}
use Rattle.broker_model.specs.declared.journal.Kept.{Kept}
use Rattle.trial_script.specs.declared.script.Script.{Script}
use Rattle.turn_lock.specs.Pairs.{HasSeen, IsDistinct}
use Rattle.hub_lock.specs.Histories.{History, broker_of}
use Rattle.hub_lock.specs.Lawful.{IsLawful}
use Rattle.hub_lock.specs.Passes.{HubId, PassSeat}
use Rattle.hub_lock.specs.Plays.{IsSessionOf}
use Rattle.hub_calls.specs.Counted.{entries_of_pass, AreOfPasses}
use Rattle.trial_run.specs.declared.typist.TrialTypist.{TrialTypist}
use Rattle.trial_run.specs.Trial.{trial_limits, typist_of}
use Rattle.trial_typing.specs.declared.job_end.JobEnd.TheVariants as job_ends
use Rattle.trial_jobs.specs.declared.job.TrialJob.{TrialJob}
use Rattle.trial_jobs.specs.declared.job.TrialJob.TheVariants as jobs
use Rattle.trial_threads.specs.declared.no_job.NoJob.{NoJob}
use Rattle.trial_threads.specs.NoJobs.{WasFull}
use Rattle.trial_threads.specs.declared.running.Running.{Running}
use Rattle.trial_threads.specs.declared.stop.Stop.{Stop}
use Rattle.trial_threads.specs.declared.trial.ThreadTrial.{ThreadTrial}
use Rattle.trial_threads.specs.declared.trial.ThreadTrialEnd.{ThreadTrialEnd}
use Rattle.trial_threads.specs.declared.trial.ThreadTrialEnd.TheVariants as ends
use Rattle.trial_threads.specs.Users.{Part, bad_line_from, parts_of}
use Rattle.trial_threads.specs.Jobs.{HasRun, AreIdle, parts_in, field_logs, method_log_in}
use Rattle.trial_threads.specs.BegunJobs.{IsUnbegun}
use Rattle.trial_threads.specs.Stops.{stop_by_begin, first_stop_in}
use Rattle.trial_threads.specs.Back.{numbers_in}
use Rattle.trial_threads.specs.Drained.{HasRest, least_for_method, least_for_fields}
use Rattle.trial_threads.specs.Peers.{ArePeers, joins_of, AllJoined}

-- a pass has seen a front of the history, which has no later step of it; so it is with each pass of
-- a job
abbrev pub IsSeenBy : History → PassSeat → Type 0
IsSeenBy h pass = HasSeen h pass.number pass.seen

abbrev pub ArePasses : History → TrialJob → Type 0
ArePasses h (jobs.Field job) = IsSeenBy h job.reader.seat × IsSeenBy h job.writer.seat
ArePasses h (jobs.Method job) = IsSeenBy h job.reader.seat × IsSeenBy h job.writer.seat
ArePasses h (jobs.Shell job) = IsSeenBy h job.pass

-- There are jobs of these users over one hub, each with its law. What their passes have seen are
-- fronts of one lawful history with no later step of them; the session is its journal, and the logs
-- are theirs. The peers have numbers in order, the root joined them in that order, the method's as a
-- method and each field's as an application, and made nothing else, and each step is the root's or of
-- one of the jobs' passes.
pub record IsTrial (typist : TrialTypist) (parts : List Part) (t : ThreadTrial) : Type 0 where
  pub hub : HubId
  pub limits : hub.limits ≡ trial_limits
  pub jobs : List Running
  pub users : parts_in jobs ≡ parts
  pub run : AllByRecursion (HasRun hub typist) jobs
  pub h : History
  pub seen : AllByRecursion (λ (r : Running). ArePasses h r.job) jobs
  pub lawful : IsLawful hub.limits h
  pub session : IsSessionOf (broker_of hub.limits h) t.session
  pub logs : t.logs ≡ field_logs jobs
  pub method_log : t.method_log ≡ method_log_in jobs []
  pub peers : ArePeers h 1 jobs
  pub root : entries_of_pass 0 h ≡ joins_of jobs
  pub once : IsDistinct (0 ∷ numbers_in jobs)
  pub passes : AreOfPasses (0 ∷ numbers_in jobs) h

-- it was done
abbrev pub IsDone : Running → Type 0
IsDone r = (goes_on : Bool) × (r.ended ≡ Ok goes_on)

-- All were done, and at the last Empty of each whose peer goes on all that was put for it was
-- taken, in a journal long enough: the method's has the shell's steps, a field's those and the
-- method's.
pub record IsWhole (typist : TrialTypist) (parts : List Part) (t : ThreadTrial) : Type 0 where
  pub trial : IsTrial typist parts t
  pub done : AllByRecursion IsDone trial.jobs
  pub rested : AllByRecursion (λ (r : Running). HasRest trial.hub.limits typist
      (least_for_method trial.jobs) (least_for_fields trial.jobs) r.job) trial.jobs

-- one of these jobs met a full journal, which held so much
abbrev pub IsStopped : Kept → List Running → Type 0
IsStopped kept [] = ⊥
IsStopped kept (r ∷ rs) = (r.ended ≡ Err (job_ends.JournalFull kept)) ⊎ IsStopped kept rs

-- A job met a full journal, which held so much: a front of the history is full for a step.
pub record IsCut (typist : TrialTypist) (parts : List Part) (kept : Kept)
    (t : ThreadTrial) : Type 0 where
  pub trial : IsTrial typist parts t
  pub stopped : IsStopped kept trial.jobs
  pub full : WasFull trial.hub.limits trial.h kept

-- what running and draining leaves of jobs
pub record HaveDrained (hub : HubId) (typist : TrialTypist) (before after : List Running)
    : Type 0 where
  pub users : parts_in after ≡ parts_in before
  pub joined : (root : PassSeat) → AllJoined root before → AllJoined root after
  pub run : AllByRecursion (HasRun hub typist) after
  pub rested : AllByRecursion (λ (r : Running). IfOk r.ended (λ goes_on. HasRest hub.limits typist
      (least_for_method after) (least_for_fields after) r.job)) after

-- All users have jobs, each with its law, run and drained; the end of the first that wasn't done
-- stopped it, if there is one.
pub record AllPlayed (hub : HubId) (typist : TrialTypist) (parts : List Part) (root : PassSeat)
    (rs : List Running) (stop : Option Stop) : Type 0 where
  pub users : parts_in rs ≡ parts
  pub run : AllByRecursion (HasRun hub typist) rs
  pub stopped : stop ≡ first_stop_in rs
  pub rested : AllByRecursion (λ (r : Running). IfOk r.ended (λ goes_on. HasRest hub.limits typist
      (least_for_method rs) (least_for_fields rs) r.job)) rs
  pub joined : AllJoined root rs

-- The next user has no job; the others wait to be run.
pub record NotAllBegun (hub : HubId) (root : PassSeat) (rs : List Running)
    (stop : Option Stop) : Type 0 where
  pub idle : AreIdle hub rs
  pub why : NoJob
  pub stopped : stop ≡ Some (stop_by_begin why)
  pub unbegun : IsUnbegun hub.limits root rs why

-- what playing leaves of these users, and of the root
abbrev pub HavePlayed : (hub : HubId) → TrialTypist → List Part → PassSeat → List Running →
    Option Stop → Type 0
HavePlayed hub typist parts root rs stop =
    AllPlayed hub typist parts root rs stop ⊎ NotAllBegun hub root rs stop

-- what the answer tells of a trial of these users
abbrev pub ToldOf : TrialTypist → List Part → Result ThreadTrial ThreadTrialEnd → Type 0
ToldOf typist parts (Ok t) = IsWhole typist parts t
ToldOf typist parts (Err (ends.JournalFull kept t)) = IsCut typist parts kept t
ToldOf typist parts (Err (ends.BadLine number)) = ⊥
ToldOf typist parts (Err ends.NoMemory) = Unit {0}

-- the number of the line at which no trial in threads of the script goes on
abbrev pub bad_line_of : Script → Option ℕ
bad_line_of s = bad_line_from s.first_line s.actions s.ending

-- the script's users
abbrev pub users_of : Script → List Part
users_of s = parts_of s.fields (s.first_line % 2 ^ 32) s.actions

-- What the answer tells of a trial of the script. BadLine: there is such a line, and elsewhere there
-- is none.
abbrev pub Tells : Script → Result ThreadTrial ThreadTrialEnd → Type 0
Tells s (Ok t) = (bad_line_of s ≡ None) × IsWhole (typist_of s) (users_of s) t
Tells s (Err (ends.JournalFull kept t)) =
    (bad_line_of s ≡ None) × IsCut (typist_of s) (users_of s) kept t
Tells s (Err (ends.BadLine number)) = bad_line_of s ≡ Some number
Tells s (Err ends.NoMemory) = Unit {0}
