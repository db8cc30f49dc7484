use Rattle.std.proofs.Common.{◌≡◌, ℕ, List, Bool, sym, ap, subst, ◌∙◌}
use Rattle.std.specs.Prelude.{if◌then◌else◌}
use Rattle.std.proofs.lemmas.Bool.{ne_eqb}
use Rattle.std.proofs.lemmas.Result.{err_from_is_err_and}
use Rattle.trial_script.specs.declared.action.Action.{Action}
use Rattle.trial_run.specs.Ran.{Ran, went, ◌>>=◌}
use Rattle.trial_run.specs.Play.{TrialPlay}
use Rattle.trial_run.specs.Lines.{actions_played}
use Rattle.trial_run.specs.Trial.{method_joined, fields_joined, played_with}
use Rattle.trial_run.specs.Working.{IsHalt, IsRun}
use Rattle.trial_run.proofs.RunsInTurn.{goes, run_goes, run_halts}
use Rattle.trial_run.proofs.trial.Trial.script.Goals as goal

pub returns-then-fields-eq0 : goal.returns-then-fields-eq0
unfolding played_with
returns-then-fields-eq0 c =
    ap (λ fields. played_with fields c.args.first c.args.actions.now c.args.self.now) c.if-fields-eq0.true

some_fields : (fields first : ℕ) (all : List Action) (t : TrialPlay) → (fields ≡ 0 → ⊥) →
    ((method_joined t >>= fields_joined fields) >>= actions_played first all) ≡ played_with fields first all t
unfolding played_with
some_fields fields first all t h =
    ap (λ (none : Bool). if none then went t
    else (method_joined t >>= fields_joined fields) >>= actions_played first all)
    (sym (ne_eqb fields 0 h))

pub returns-in_err-join_method : goal.returns-in_err-join_method
returns-in_err-join_method c =
    let p = err_from_is_err_and c.from_residual.result c.from_residual.ensures.1 in
    let t = c.args.self.now in
    rw (p.1, p.2)
    (subst (λ (r : Ran TrialPlay). IsHalt r c.in_err-join_method.field-0.0 c.join_method.new.self)
    (some_fields c.args.fields c.args.first c.args.actions.now t c.if-fields-eq0.false)
    (run_halts (method_joined t >>= fields_joined c.args.fields) (actions_played c.args.first c.args.actions.now) _ _
    (run_halts (method_joined t) (fields_joined c.args.fields) _ _ c.in_err-join_method.ensures.run)))

pub returns-in_err-join_fields : goal.returns-in_err-join_fields
returns-in_err-join_fields c =
    let p =
    err_from_is_err_and c.from_residual-in_err-join_fields.result c.from_residual-in_err-join_fields.ensures.1 in
    let t = c.args.self.now in
    rw (p.1, p.2)
    (subst (λ (r : Ran TrialPlay). IsHalt r c.in_err-join_fields.field-0.0 c.join_fields.new.self)
    (some_fields c.args.fields c.args.first c.args.actions.now t c.if-fields-eq0.false)
    (run_halts (method_joined t >>= fields_joined c.args.fields) (actions_played c.args.first c.args.actions.now) _ _
    (subst (λ (r : Ran TrialPlay). IsHalt r c.in_err-join_fields.field-0.0 c.join_fields.new.self)
    (sym (goes (method_joined t) c.join_method.new.self (fields_joined c.args.fields) c.in_ok-join_method.ensures.run))
    c.in_err-join_fields.ensures.run)))

pub returns : goal.returns
returns c =
    let t = c.args.self.now in
    subst (λ (r : Ran TrialPlay). IsRun r c.actions.result c.actions.new.self)
    (some_fields c.args.fields c.args.first c.args.actions.now t c.if-fields-eq0.false)
    (run_goes (method_joined t >>= fields_joined c.args.fields) c.join_fields.new.self _
    (actions_played c.args.first c.args.actions.now) c.actions.result
    (goes (method_joined t) c.join_method.new.self (fields_joined c.args.fields) c.in_ok-join_method.ensures.run
    ∙ c.in_ok-join_fields.ensures.run)
    (subst (λ (l : List Action). IsRun (actions_played c.args.first l c.join_fields.new.self) c.actions.result
    c.actions.new.self) c.as_slice.ensures c.actions.ensures.run))
