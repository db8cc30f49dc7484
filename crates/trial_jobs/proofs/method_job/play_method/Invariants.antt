use Rattle.std.proofs.Common.{◌≤◌, true, false}
use Rattle.trial_jobs.specs.MethodGoing.{IsMethodOf, MethodKeeps, IsMethodAt}
use Rattle.trial_jobs.specs.MethodLaw.{first_batches, typist_in}
use Rattle.trial_jobs.proofs.method_job.play_method.Given as goal

-- the first of the batches were committed, the peer goes on, and nothing waits
abbrev pub invariant-loop-round : goal.invariant-loop-round
invariant-loop-round g l = record {
  of : IsMethodOf l.hub l.job;
  keeps : MethodKeeps l.hub.limits l.initial.job l.job;
  goes : IsMethodAt l.hub.limits (typist_in l.initial.job) l.job (first_batches l.initial.job l.round) false true;
  rests : 1 ≤ l.round →
      IsMethodAt l.hub.limits (typist_in l.initial.job) l.job (first_batches l.initial.job l.round) true true;
}
