-- The law of a job
use Rattle.std.specs.Prelude.{◌≡◌, Bool, true, Result}
use Rattle.broker_steps.specs.declared.limits.Limits.{Limits}
use Rattle.hub_lock.specs.Passes.{HubId}
use Rattle.trial_typing.specs.declared.job_end.JobEnd.{JobEnd}
use Rattle.trial_typing.specs.FieldLaw.{IsFieldReady, FieldRuns}
use Rattle.trial_typing.specs.FieldGoing.{IsFieldPlayed}
use Rattle.trial_typing.specs.ShellLaw.{IsShellReady, ShellRuns}
use Rattle.trial_jobs.specs.declared.job.TrialJob.{TrialJob}
use Rattle.trial_jobs.specs.declared.job.TrialJob.TheVariants as jobs
use Rattle.trial_jobs.specs.MethodLaw.{IsMethodReady, MethodRuns, typist_in}
use Rattle.trial_jobs.specs.MethodGoing.{IsMethodPlayed}

-- the job is as its user's peer joined and sent its set-up, or as the shell's pass was made
abbrev pub IsReady : HubId → TrialJob → Type 0
IsReady hub (jobs.Field job) = IsFieldReady hub job
IsReady hub (jobs.Method job) = IsMethodReady hub job
IsReady hub (jobs.Shell job) = IsShellReady hub job

-- what running it makes of it
abbrev pub Runs : Limits → TrialJob → TrialJob → Result (Unit {0}) JobEnd → Type 0
Runs limits (jobs.Field before) (jobs.Field after) result = FieldRuns limits before after result
Runs limits (jobs.Method before) (jobs.Method after) result = MethodRuns limits before after result
Runs limits (jobs.Shell before) (jobs.Shell after) result = ShellRuns limits before after result
Runs limits _ _ result = ⊥

-- it was done, and its peer goes on or doesn't; the shell has no peer, and goes on
abbrev pub HasPlayed : Limits → TrialJob → TrialJob → Bool → Type 0
HasPlayed limits (jobs.Field before) (jobs.Field after) goes_on = IsFieldPlayed limits after goes_on
HasPlayed limits (jobs.Method before) (jobs.Method after) goes_on =
    IsMethodPlayed limits (typist_in before) after goes_on
HasPlayed limits (jobs.Shell before) (jobs.Shell after) goes_on = goes_on ≡ true
HasPlayed limits _ _ goes_on = ⊥
