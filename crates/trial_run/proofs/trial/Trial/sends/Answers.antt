use Rattle.std.proofs.Common.{sym, ap, ◌∙◌}
use Rattle.std.proofs.lemmas.Result.{err_from_is_err_and}
use Rattle.trial_run.specs.Ran.{went}
use Rattle.trial_run.specs.Play.{TrialPlay, sent}
use Rattle.trial_run.specs.Rounds.{sends_waiting, sends}
use Rattle.trial_run.proofs.RunsInTurn.{goes, run_halts}
use Rattle.trial_run.proofs.trial.Trial.sends.Goals as goal

pub returns-in_err-send_waiting-clause-run : goal.returns-in_err-send_waiting-clause-run
unfolding sends
returns-in_err-send_waiting-clause-run c =
    let p = err_from_is_err_and c.from_residual.result c.from_residual.ensures.1 in
    rw (p.1, p.2)
    (run_halts (sends_waiting c.args.who c.args.self.now) (λ now. went (sent c.args.who now)) _ _
    c.in_err-send_waiting.ensures.run)

pub returns-clause-run : goal.returns-clause-run
unfolding sends
returns-clause-run c =
    goes (sends_waiting c.args.who c.args.self.now) c.send_waiting.new.self (λ now. went (sent c.args.who now))
    c.in_ok-send_waiting.ensures.run
    ∙ ap (λ (t : TrialPlay). went t) (sym c.sent.ensures.now)
