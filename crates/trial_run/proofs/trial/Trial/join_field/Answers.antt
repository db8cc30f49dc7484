use Rattle.std.proofs.Common.{◌∷◌, ◌++◌, [], length, refl, ◌∙◌}
use Rattle.std.proofs.lemmas.Result.{err_from_is_err_and}
use Rattle.relay_model.specs.declared.role.Role.TheVariants.{App}
use Rattle.trial_run.specs.declared.whose.Whose.TheVariants as whose
use Rattle.trial_run.specs.Steps.{joined}
use Rattle.trial_run.specs.Play.{new_field}
use Rattle.trial_run.specs.Rounds.{with_broker, sends}
use Rattle.trial_run.specs.Trial.{field_joined}
use Rattle.trial_run.proofs.RunsInTurn.{run_halts, shared_halts}
use Rattle.trial_run.proofs.PhasesRun.{join_runs}
use Rattle.trial_run.proofs.trial.Trial.join_field.Goals as goal

pub returns-in_err-join-clause-run : goal.returns-in_err-join-clause-run
unfolding field_joined
returns-in_err-join-clause-run c =
    let p = err_from_is_err_and c.from_residual-in_err-join.result c.from_residual-in_err-join.ensures.1 in
    rw (p.1, p.2)
    (run_halts (with_broker c.args.self.now (joined App c.args.self.now.broker))
    (λ now. sends (whose.Field (length c.args.self.now.fields)) (record now { fields = now.fields ++ new_field ∷ [] }))
    _ _ (shared_halts _ _ _ (joined App) _ c.self.view_is c.in_err-join.ensures refl))

pub returns-clause-run : goal.returns-clause-run
returns-clause-run c =
    join_runs _ _ _ _ _ _ _ c.sends.result c.self.view_is c.in_ok-join.ensures
    (c.len-index.ensures ∙ c.self.inside.fields.ok.0)
    c.in_ok-field.ensures c.in_ok-push.ensures.items c.sends.ensures.run
