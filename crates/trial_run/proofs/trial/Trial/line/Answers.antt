use Rattle.std.proofs.lemmas.Result.{err_from_is_err_and}
use Rattle.trial_run.specs.Rounds.{rounds}
use Rattle.trial_run.specs.Lines.{acted, line_played}
use Rattle.trial_run.proofs.RunsInTurn.{run_goes, run_halts}
use Rattle.trial_run.proofs.trial.Trial.line.Goals as goal

pub returns-in_err-act-clause-run : goal.returns-in_err-act-clause-run
unfolding line_played
returns-in_err-act-clause-run c =
    let p = err_from_is_err_and c.from_residual.result c.from_residual.ensures.1 in
    rw (p.1, p.2)
    (run_halts (acted c.args.time c.args.action.now c.args.self.now) (λ now. rounds now.most now) _ _
    c.in_err-act.ensures.run)

pub returns-clause-run : goal.returns-clause-run
unfolding line_played
returns-clause-run c =
    run_goes (acted c.args.time c.args.action.now c.args.self.now) _ _ (λ now. rounds now.most now) c.rounds.result
    c.in_ok-act.ensures.run c.rounds.ensures.run
