use Rattle.std.proofs.lemmas.Result.{err_from_is_err_and}
use Rattle.broker_steps.specs.declared.step.ShellStep.TheVariants as shell
use Rattle.trial_run.specs.Lines.{shell_says, pressed}
use Rattle.trial_run.proofs.RunsInTurn.{run_goes, run_halts}
use Rattle.trial_run.proofs.trial.Trial.press.Goals as goal

pub returns-in_err-shell-clause-run : goal.returns-in_err-shell-clause-run
unfolding pressed
returns-in_err-shell-clause-run c =
    let p = err_from_is_err_and c.from_residual.result c.from_residual.ensures.1 in
    rw (p.1, p.2)
    (run_halts (shell_says (shell.Key c.args.time c.args.key 1) c.args.self.now)
    (shell_says (shell.Key c.args.time c.args.key 0)) _ _ c.in_err-shell.ensures.run)

pub returns-clause-run : goal.returns-clause-run
unfolding pressed
returns-clause-run c =
    run_goes (shell_says (shell.Key c.args.time c.args.key 1) c.args.self.now) _ _
    (shell_says (shell.Key c.args.time c.args.key 0)) c.shell-2.result c.in_ok-shell.ensures.run c.shell-2.ensures.run
