-- Jobs that were drained: what is left to take for their peers
use Rattle.std.specs.Prelude.{◌≡◌, ◌⊎◌, ◌≤◌, ℕ, max, List, [], ◌∷◌, length, IfOk}
use Rattle.std.specs.List.{AllByRecursion}
use Rattle.broker_steps.specs.declared.limits.Limits.{Limits}
use Rattle.hub_lock.specs.Passes.{HubId, PassSeat, journal_seen}
use Rattle.hub_calls.specs.Taken.{HasAll}
use Rattle.trial_run.specs.declared.typist.TrialTypist.{TrialTypist}
use Rattle.trial_typing.specs.declared.field_job.FieldJob.{FieldJob}
use Rattle.trial_typing.specs.FieldLaw.{IsFieldDone}
use Rattle.trial_typing.specs.Sending.{IsOver, IsPast}
use Rattle.trial_jobs.specs.declared.job.TrialJob.{TrialJob}
use Rattle.trial_jobs.specs.declared.job.TrialJob.TheVariants as jobs
use Rattle.trial_jobs.specs.declared.method_job.MethodJob.{MethodJob}
use Rattle.trial_jobs.specs.MethodLaw.{IsMethodDone}
use Rattle.trial_threads.specs.declared.running.Running.{Running}
use Rattle.trial_threads.specs.Jobs.{Pairwise, HasRun, KeepsPasses, part_of}

-- how many entries the journal had that a pass has seen
abbrev pub entries_seen : PassSeat → ℕ
entries_seen pass = length (journal_seen pass)

-- how many the shell has seen, or the method's reader
abbrev pub seen_by_shell : TrialJob → ℕ
seen_by_shell (jobs.Shell job) = entries_seen job.pass
seen_by_shell _ = 0

abbrev pub seen_by_method : TrialJob → ℕ
seen_by_method (jobs.Method job) = entries_seen job.reader.seat
seen_by_method _ = 0

-- the most of these, and of so many
abbrev pub most_of : (TrialJob → ℕ) → ℕ → List Running → ℕ
most_of seen most [] = most
most_of seen most (r ∷ rs) = most_of seen (max most (seen r.job)) rs

-- so many entries the method's writer is to have seen at its last Empty, and a field's
abbrev pub least_for_method : List Running → ℕ
least_for_method rs = most_of seen_by_shell 0 rs

abbrev pub least_for_fields : List Running → ℕ
least_for_fields rs = most_of seen_by_method (least_for_method rs) rs

-- It was done, and at the last Empty all that was put for its peer was taken, in a journal of at
-- least so many entries and of all that its reader has seen; or its peer has ended.
pub record IsFieldDrained (limits : Limits) (job : FieldJob) (least : ℕ) : Type 0 where
  pub done : IsFieldDone limits job
  pub rest : (HasAll limits job.writer done.taken × IsPast job.reader job.writer least)
      ⊎ IsOver limits job.reader job.writer

-- the same of the method, in a journal of at least so many entries
pub record IsMethodDrained (limits : Limits) (typist : TrialTypist) (job : MethodJob)
    (least : ℕ) : Type 0 where
  pub done : IsMethodDone limits typist job
  pub rest : (HasAll limits job.writer done.taken × (least ≤ entries_seen job.writer.seat))
      ⊎ IsOver limits job.reader job.writer

-- so it is with a job, where the least for the method and for the fields are these
abbrev pub HasRest : Limits → TrialTypist → (for_method for_fields : ℕ) → TrialJob → Type 0
HasRest limits typist for_method for_fields (jobs.Field job) =
    IsFieldDrained limits job for_fields
HasRest limits typist for_method for_fields (jobs.Method job) =
    IsMethodDrained limits typist job for_method
HasRest limits typist for_method for_fields (jobs.Shell job) = Unit {0}

-- so it is with the method's job, and with a field's
abbrev pub MethodRest : Limits → TrialTypist → ℕ → TrialJob → Type 0
MethodRest limits typist least (jobs.Method job) = IsMethodDrained limits typist job least
MethodRest limits typist least _ = Unit {0}

abbrev pub FieldRest : Limits → ℕ → TrialJob → Type 0
FieldRest limits least (jobs.Field job) = IsFieldDrained limits job least
FieldRest limits least _ = Unit {0}

-- a job goes on, by the same law and with the same passes
pub record GoesOn (hub : HubId) (before after : Running) : Type 0 where
  pub run : (typist : TrialTypist) → HasRun hub typist before → HasRun hub typist after
  pub same : part_of after.job ≡ part_of before.job
  pub keeps : KeepsPasses hub.limits before.job after.job
  pub shell : seen_by_shell after.job ≡ seen_by_shell before.job

-- the method's job is drained, where it was done; another stays
pub record DrainsMethod (hub : HubId) (least : ℕ) (before after : Running) : Type 0 where
  pub goes : GoesOn hub before after
  pub rests : (typist : TrialTypist) → HasRun hub typist before →
      IfOk after.ended (λ goes_on. MethodRest hub.limits typist least after.job)

-- a field's job is drained, where it was done; another stays
pub record DrainsField (hub : HubId) (least : ℕ) (before after : Running) : Type 0 where
  pub goes : GoesOn hub before after
  pub rests : (typist : TrialTypist) → HasRun hub typist before →
      IfOk after.ended (λ goes_on. FieldRest hub.limits least after.job)
  pub method : seen_by_method after.job ≡ seen_by_method before.job
  pub stays : (typist : TrialTypist) (n : ℕ) →
      IfOk before.ended (λ goes_on. MethodRest hub.limits typist n before.job) →
      IfOk after.ended (λ goes_on. MethodRest hub.limits typist n after.job)

-- all jobs were drained
pub record AreDrained (hub : HubId) (before after : List Running) : Type 0 where
  pub goes : Pairwise (GoesOn hub) before after
  pub rests : (typist : TrialTypist) → AllByRecursion (HasRun hub typist) before →
      AllByRecursion (λ (r : Running). IfOk r.ended (λ goes_on.
      HasRest hub.limits typist (least_for_method after) (least_for_fields after) r.job)) after
