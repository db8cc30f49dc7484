-- Jobs and what became of them
use Rattle.std.specs.Prelude.{◌≡◌, Bool, true, List, [], ◌∷◌, ◌++◌, Result, Err, IfOk}
use Rattle.std.specs.List.{AllByRecursion}
use Rattle.broker_steps.specs.declared.limits.Limits.{Limits}
use Rattle.hub_lock.specs.Seats.{having_seen}
use Rattle.trial_client_logs.specs.declared.entry.FieldEntry.{FieldEntry}
use Rattle.trial_client_logs.specs.declared.method_log.MethodEntry.{MethodEntry}
use Rattle.hub_lock.specs.Passes.{HubId, IsOf}
use Rattle.hub_calls.specs.Made.{SawMore}
use Rattle.trial_run.specs.declared.typist.TrialTypist.{TrialTypist}
use Rattle.trial_typing.specs.declared.job_end.JobEnd.{JobEnd}
use Rattle.trial_typing.specs.declared.job_end.JobEnd.TheVariants as ends
use Rattle.trial_typing.specs.Ends.{done_of}
use Rattle.trial_typing.specs.FieldGoing.{IsFieldOf, IsFieldPlayed}
use Rattle.trial_typing.specs.FieldLaw.{FieldEnds}
use Rattle.trial_typing.specs.Sending.{HaveSeenMore}
use Rattle.trial_typing.specs.ShellLaw.{Orders}
use Rattle.trial_jobs.specs.declared.job.TrialJob.{TrialJob}
use Rattle.trial_jobs.specs.declared.job.TrialJob.TheVariants as jobs
use Rattle.trial_jobs.specs.JobLaw.{IsReady}
use Rattle.trial_jobs.specs.MethodGoing.{IsMethodOf, IsMethodPlayed}
use Rattle.trial_jobs.specs.MethodLaw.{MethodEnds, typist_in}
use Rattle.trial_threads.specs.declared.running.Running.{Running}
use Rattle.trial_threads.specs.Users.{Part, of_field, of_method, of_shell}

-- what its user does
abbrev pub part_of : TrialJob → Part
part_of (jobs.Field job) = of_field job.edits
part_of (jobs.Method job) = of_method job.batches
part_of (jobs.Shell job) = of_shell job.steps

abbrev pub parts_in : List Running → List Part
parts_in [] = []
parts_in (r ∷ rs) = part_of r.job ∷ parts_in rs

-- two lists are as long, and each of the one is so to that of the other
abbrev pub Pairwise : {A : Type 0} → (A → A → Type 0) → List A → List A → Type 0
Pairwise R [] [] = Unit {0}
Pairwise R (x ∷ xs) (y ∷ ys) = R x y × Pairwise R xs ys
Pairwise R _ _ = ⊥

-- its passes are the hub's, and a peer's two passes are one peer's
abbrev pub IsJobOf : HubId → TrialJob → Type 0
IsJobOf hub (jobs.Field job) = IsFieldOf hub job
IsJobOf hub (jobs.Method job) = IsMethodOf hub job
IsJobOf hub (jobs.Shell job) = IsOf hub job.pass

abbrev pub AreJobsOf : HubId → List Running → Type 0
AreJobsOf hub rs = AllByRecursion (λ (r : Running). IsJobOf hub r.job) rs

-- a job that wasn't run yet, and one that is ready besides
abbrev pub idle_job : TrialJob → Running
idle_job job = record { job = job; ended = Err ends.NoMemory }

pub record IsIdle (hub : HubId) (r : Running) : Type 0 where
  pub ready : IsReady hub r.job
  pub idle : r.ended ≡ Err ends.NoMemory

abbrev pub AreIdle : HubId → List Running → Type 0
AreIdle hub rs = AllByRecursion (IsIdle hub) rs

-- the method, if it is the method's job, types as this one
abbrev pub TypesAs : TrialTypist → TrialJob → Type 0
TypesAs typist (jobs.Method job) = typist_in job ≡ typist
TypesAs typist _ = Unit {0}

abbrev pub TypeAs : TrialTypist → List Running → Type 0
TypeAs typist rs = AllByRecursion (λ (r : Running). TypesAs typist r.job) rs

-- the law of a job, by its end
abbrev pub HasEnd : Limits → TrialTypist → TrialJob → Result Bool JobEnd → Type 0
HasEnd limits typist (jobs.Field job) r = FieldEnds limits job (done_of r)
HasEnd limits typist (jobs.Method job) r = MethodEnds limits typist job (done_of r)
HasEnd limits typist (jobs.Shell job) r = Orders limits job.pass job.steps (done_of r)

-- it was done, and its peer goes on or doesn't; the shell goes on
abbrev pub HasGone : Limits → TrialTypist → TrialJob → Bool → Type 0
HasGone limits typist (jobs.Field job) goes_on = IsFieldPlayed limits job goes_on
HasGone limits typist (jobs.Method job) goes_on = IsMethodPlayed limits typist job goes_on
HasGone limits typist (jobs.Shell job) goes_on = goes_on ≡ true

-- the law of a job holds, by its end
pub record HasRun (hub : HubId) (typist : TrialTypist) (r : Running) : Type 0 where
  pub of : IsJobOf hub r.job
  pub ends : HasEnd hub.limits typist r.job r.ended
  pub plays : IfOk r.ended (HasGone hub.limits typist r.job)

-- it is the same user's job with the same passes, which have seen more; the writer made takes alone
abbrev pub KeepsPasses : Limits → TrialJob → TrialJob → Type 0
KeepsPasses limits (jobs.Field before) (jobs.Field after) =
    HaveSeenMore limits before.reader before.writer after.reader after.writer
KeepsPasses limits (jobs.Method before) (jobs.Method after) =
    HaveSeenMore limits before.reader before.writer after.reader after.writer
KeepsPasses limits (jobs.Shell before) (jobs.Shell after) =
    (after.pass ≡ having_seen before.pass after.pass.seen)
    × SawMore limits before.pass.seen after.pass.seen
KeepsPasses limits _ _ = ⊥

-- it was run, by the typist that it had before, and its user does the same
pub record IsRun (hub : HubId) (before after : Running) : Type 0 where
  pub run : (typist : TrialTypist) → TypesAs typist before.job → HasRun hub typist after
  pub same : part_of after.job ≡ part_of before.job
  pub keeps : KeepsPasses hub.limits before.job after.job

-- so it is with each
abbrev pub AreRun : HubId → (before after : List Running) → Type 0
AreRun hub before after = Pairwise (IsRun hub) before after

-- the log of a field's job, and that of the method's
abbrev pub field_log_of : TrialJob → List (List FieldEntry)
field_log_of (jobs.Field job) = job.log ∷ []
field_log_of _ = []

abbrev pub method_log_of : TrialJob → List MethodEntry → List MethodEntry
method_log_of (jobs.Method job) log = job.log
method_log_of _ log = log

-- the logs of the fields, in order
abbrev pub field_logs : List Running → List (List FieldEntry)
field_logs [] = []
field_logs (r ∷ rs) = field_log_of r.job ++ field_logs rs

-- the log of the method, the last where there are several
abbrev pub method_log_in : List Running → List MethodEntry → List MethodEntry
method_log_in [] log = log
method_log_in (r ∷ rs) log = method_log_in rs (method_log_of r.job log)
