use Rattle.std.proofs.Common.{◌+◌, List, ◌∷◌, drop, sym, ap, subst, ◌∙◌}
use Rattle.std.proofs.lemmas.List.{at_drop_more, at_drop_all}
use Rattle.std.proofs.lemmas.Result.{err_from_is_err_and}
use Rattle.trial_script.specs.declared.action.Action.{Action}
use Rattle.trial_run.specs.Ran.{Ran}
use Rattle.trial_run.specs.Play.{TrialPlay}
use Rattle.trial_run.specs.Lines.{actions_played}
use Rattle.trial_run.specs.Working.{IsHalt}
use Rattle.trial_run.proofs.LoopsRun.{actions_go, actions_stop, actions_end}
use Rattle.trial_run.proofs.PhasesRun.{stays_on}
use Rattle.trial_run.proofs.trial.Trial.actions.Goals as goal

pub returns-in_err-line : goal.returns-in_err-line
returns-in_err-line c =
    let p = err_from_is_err_and c.from_residual.result c.from_residual.ensures.1 in
    let i = c.loop-action.action-index in
    let all = c.args.actions.now in
    let next =
    at_drop_more
    (λ (l : List Action). actions_played c.loop-action.time l c.loop-action.self) all i c.action-item.result
    c.loop-action-test.true
    ∙ ap (λ (x : Action). actions_played c.loop-action.time (x ∷ drop (i + 1) all) c.loop-action.self)
    (sym c.action-item.is) in
    record {
      run =
          rw (p.1, p.2)
          (subst (λ (r : Ran TrialPlay). IsHalt r c.in_err-line.field-0.0 c.line.new.self)
          (sym next ∙ c.loop-action.invariant.left)
          (actions_stop c.loop-action.time c.action-item.result (drop (i + 1) all) c.loop-action.self _ _
          c.in_err-line.ensures.run));
    }

pub loop-action-preserved : goal.loop-action-preserved
loop-action-preserved c =
    let i = c.loop-action.action-index in
    let all = c.args.actions.now in
    let next =
    at_drop_more
    (λ (l : List Action). actions_played c.loop-action.time l c.loop-action.self) all i c.action-item.result
    c.loop-action-test.true
    ∙ ap (λ (x : Action). actions_played c.loop-action.time (x ∷ drop (i + 1) all) c.loop-action.self)
    (sym c.action-item.is) in
    record {
      left =
          sym (actions_go c.loop-action.time c.action-item.result (drop (i + 1) all) c.loop-action.self c.line.new.self
          c.in_ok-line.ensures.run)
          ∙ sym next ∙ c.loop-action.invariant.left;
      stays = stays_on _ _ _ c.loop-action.invariant.stays c.line.ensures.stays;
    }

pub returns : goal.returns
returns c = record {
  run =
      sym c.loop-action.invariant.left
      ∙ at_drop_all (λ (l : List Action). actions_played c.loop-action.time l c.loop-action.self) c.args.actions.now
      c.loop-action.action-index c.loop-action-test.false
      ∙ actions_end c.loop-action.time c.loop-action.self;
}
