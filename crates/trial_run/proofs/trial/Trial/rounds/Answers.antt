use Rattle.std.proofs.Common.{sym, ap, subst, ◌∙◌}
use Rattle.std.proofs.lemmas.Result.{err_from_is_err_and}
use Rattle.trial_run.specs.Ran.{Ran}
use Rattle.trial_run.specs.Play.{TrialPlay}
use Rattle.trial_run.specs.Rounds.{rounds}
use Rattle.trial_run.specs.Working.{IsHalt}
use Rattle.trial_run.proofs.LoopsRun.{rounds_none, rounds_go, rounds_stop, rounds_end}
use Rattle.trial_run.proofs.PhasesRun.{stays_on}
use Rattle.trial_run.proofs.trial.Trial.rounds.Goals as goal

pub returns-then-is_quiet-clause-run : goal.returns-then-is_quiet-clause-run
returns-then-is_quiet-clause-run c =
    ap (λ n. rounds n c.args.self.now) (sym c.loop-made.invariant.most) ∙ sym c.loop-made.invariant.left
    ∙ rounds_none _ c.loop-made.self (sym c.if-is_quiet.ensures)

pub returns-in_err-round-clause-run : goal.returns-in_err-round-clause-run
returns-in_err-round-clause-run c =
    let p = err_from_is_err_and c.from_residual.result c.from_residual.ensures.1 in
    rw (p.1, p.2)
    (subst (λ (r : Ran TrialPlay). IsHalt r c.in_err-round.field-0.0 c.round.new.self)
    (c.loop-made.invariant.left ∙ ap (λ n. rounds n c.args.self.now) c.loop-made.invariant.most)
    (rounds_stop c.self.inside.most c.loop-made.made c.loop-made.self _ _ c.loop-made-test.true
    (sym c.if-is_quiet.ensures) c.in_err-round.ensures.run))

pub loop-made-preserved : goal.loop-made-preserved
loop-made-preserved c = record {
  left =
      sym (rounds_go c.self.inside.most c.loop-made.made c.loop-made.self c.round.new.self c.loop-made-test.true
      (sym c.if-is_quiet.ensures) c.in_ok-round.ensures.run)
      ∙ c.loop-made.invariant.left;
  most = c.loop-made.invariant.most;
  stays = stays_on _ _ _ c.loop-made.invariant.stays c.round.ensures.stays;
}

pub returns-clause-run : goal.returns-clause-run
returns-clause-run c =
    ap (λ n. rounds n c.args.self.now) (sym c.loop-made.invariant.most) ∙ sym c.loop-made.invariant.left
    ∙ rounds_end c.self.inside.most c.loop-made.made c.loop-made.self c.loop-made-test.false
