use Rattle.std.proofs.Common.{List, true, false}
use Rattle.trial_field.specs.Log.{Batch}
use Rattle.trial_run.specs.declared.typist.TrialTypist.{TrialTypist}
use Rattle.trial_jobs.specs.MethodGoing.{IsMethodOf, MethodKeeps, IsMethodAt}
use Rattle.trial_jobs.proofs.method_turns.answer_all.Given as goal

-- the peer goes on, and what was taken so far was answered
abbrev pub invariant-loop : goal.invariant-loop
invariant-loop g l = record {
  of : IsMethodOf l.hub l.job;
  keeps : MethodKeeps l.hub.limits l.initial.job l.job;
  goes : (typist : TrialTypist) (own : List Batch) → IsMethodAt l.hub.limits typist l.initial.job own false true →
      IsMethodAt l.hub.limits typist l.job own false true;
}
