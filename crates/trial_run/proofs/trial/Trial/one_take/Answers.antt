use Rattle.std.proofs.Common.{refl}
use Rattle.std.proofs.lemmas.Result.{err_from_is_err_and}
use Rattle.trial_run.proofs.PhasesRun.{one_take_runs, one_take_halts}
use Rattle.trial_run.proofs.trial.Trial.one_take.Goals as goal

pub returns-in_err-count-clause-run : goal.returns-in_err-count-clause-run
returns-in_err-count-clause-run c =
    let p = err_from_is_err_and c.from_residual.result c.from_residual.ensures.1 in
    rw (p.1, p.2)
    (one_take_halts _ _ _ c.args.who _ _ c.self.view_is c.number_of.ensures c.in_err-count.ensures.stop refl)

pub returns-clause-run : goal.returns-clause-run
returns-clause-run c =
    one_take_runs _ _ _ _ c.args.who _ _ _ c.sends.result c.self.view_is c.number_of.ensures
    c.in_ok-count.ensures.took c.in_ok-count.ensures.bytes c.in_ok-hears.ensures.ok c.sends.ensures.run
