use Rattle.std.proofs.Common.{refl}
use Rattle.std.proofs.lemmas.Result.{err_from_is_err_and}
use Rattle.relay_model.specs.declared.role.Role.TheVariants.{Method}
use Rattle.trial_run.specs.declared.whose.Whose.TheVariants as whose
use Rattle.trial_run.specs.Steps.{joined}
use Rattle.trial_run.specs.Rounds.{with_broker, sends}
use Rattle.trial_run.specs.Trial.{method_joined}
use Rattle.trial_run.proofs.RunsInTurn.{run_goes, run_halts, shared_goes, shared_halts}
use Rattle.trial_run.proofs.trial.Trial.join_method.Goals as goal

pub returns-in_err-join-clause-run : goal.returns-in_err-join-clause-run
unfolding method_joined
returns-in_err-join-clause-run c =
    let p = err_from_is_err_and c.from_residual.result c.from_residual.ensures.1 in
    rw (p.1, p.2)
    (run_halts (with_broker c.args.self.now (joined Method c.args.self.now.broker)) (sends whose.Method) _ _
    (shared_halts _ _ _ (joined Method) _ c.self.view_is c.in_err-join.ensures refl))

pub returns-clause-run : goal.returns-clause-run
unfolding method_joined
returns-clause-run c =
    run_goes (with_broker c.args.self.now (joined Method c.args.self.now.broker)) _ _ (sends whose.Method)
    c.sends.result (shared_goes _ _ (joined Method) _ c.self.view_is c.in_ok-join.ensures) c.sends.ensures.run
