use Rattle.std.proofs.Common.{Bool, sym, ap, subst}
use Rattle.std.specs.Prelude.{if◌then◌else◌}
use Rattle.trial_run.specs.Ran.{Ran, went}
use Rattle.trial_run.specs.Play.{TrialPlay}
use Rattle.trial_run.specs.Rounds.{takes, turn}
use Rattle.trial_run.specs.Working.{IsRun}
use Rattle.trial_run.proofs.trial.Trial.turn.Goals as goal

pub returns-then-is_paused-clause-run : goal.returns-then-is_paused-clause-run
unfolding turn
returns-then-is_paused-clause-run c =
    let t = c.args.self.now in
    ap (λ (paused : Bool). if paused then went t else takes t.most c.args.who t) (sym c.if-is_paused.ensures)

pub returns-clause-run : goal.returns-clause-run
unfolding turn
returns-clause-run c =
    let t = c.args.self.now in
    subst (λ (r : Ran TrialPlay). IsRun r c.takes.result c.takes.new.self)
    (ap (λ (paused : Bool). if paused then went t else takes t.most c.args.who t) c.if-is_paused.ensures)
    c.takes.ensures.run
