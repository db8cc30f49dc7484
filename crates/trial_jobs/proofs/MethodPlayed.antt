-- A method's job that was played, and goes on to its last Empty
use Rattle.std.proofs.Common.{◌≡◌, Bool, true, false, List, refl, sym, subst, arith}
use Rattle.broker_steps.specs.declared.limits.Limits.{Limits}
use Rattle.trial_field.specs.Log.{Batch}
use Rattle.hub_calls.specs.Taken.{HasAll}
use Rattle.trial_run.specs.declared.typist.TrialTypist.{TrialTypist}
use Rattle.trial_typing.specs.Sending.{IsOver}
use Rattle.trial_typing.specs.declared.job_end.JobEnd.{JobEnd}
use Rattle.trial_jobs.specs.declared.method_job.MethodJob.{MethodJob}
use Rattle.trial_jobs.specs.MethodLaw.{rounds, first_batches, IsMethodDone, MethodStops}
use Rattle.trial_jobs.specs.MethodGoing.{IsMethodAt, IsMethodPlayed}
use Rattle.trial_jobs.proofs.MethodGoesOn.{busy}
use Rattle.trial_jobs.proofs.MethodDone.{same_first, runs_rest, runs_over}

-- it may take again

pub busy_at : (limits : Limits) (typist : TrialTypist) (job : MethodJob) (own : List Batch) (goes_on : Bool) →
    IsMethodAt limits typist job own true goes_on → IsMethodAt limits typist job own false goes_on
busy_at limits typist job own true h = busy limits typist job own h
busy_at limits typist job own false h = h

-- and what it leaves then is played, too

pub played_again : (limits : Limits) (typist : TrialTypist) (a b : MethodJob) (goes_on : Bool) →
    b.batches ≡ a.batches → IsMethodAt limits typist b (first_batches a rounds) true goes_on →
    IsMethodPlayed limits typist b goes_on
played_again limits typist a b goes_on same h =
    subst (λ (own : List Batch). IsMethodAt limits typist b own true goes_on) (sym (same_first a b rounds same)) h

pub stops_again : (limits : Limits) (typist : TrialTypist) (a b : MethodJob) (end : JobEnd) →
    b.batches ≡ a.batches → MethodStops limits typist b (first_batches a rounds) end →
    MethodStops limits typist b (first_batches b rounds) end
stops_again limits typist a b end same k =
    subst (λ (own : List Batch). MethodStops limits typist b own end) (sym (same_first a b rounds same)) k

-- it is done: nothing was left to take as far as its writer has seen, or its peer ended

pub played_rest : (limits : Limits) (typist : TrialTypist) (job : MethodJob) → IsMethodPlayed limits typist job true →
    (done : IsMethodDone limits typist job) × HasAll limits job.writer done.taken
played_rest limits typist job h = runs_rest limits typist job job rounds (omega arith) (omega arith) refl h

pub played_over : (limits : Limits) (typist : TrialTypist) (job : MethodJob) → IsMethodPlayed limits typist job false →
    IsMethodDone limits typist job × IsOver limits job.reader job.writer
played_over limits typist job h = (runs_over limits typist job job rounds (omega arith) refl h, h.over)

pub played_done : (limits : Limits) (typist : TrialTypist) (job : MethodJob) (goes_on : Bool) →
    IsMethodPlayed limits typist job goes_on → IsMethodDone limits typist job
played_done limits typist job true h = (played_rest limits typist job h).0
played_done limits typist job false h = (played_over limits typist job h).0
