use Rattle.std.proofs.Common.{Result, Ok, Err, sym, ap, ◌∙◌, subst}
use Rattle.std.specs.Prelude.{OnOk}
use Rattle.client_side.specs.Client.{Client}
use Rattle.client_side.specs.FieldState.{State}
use Rattle.trial_run.specs.declared.whose.Whose.{Whose}
use Rattle.trial_run.specs.Play.{FieldPlay, field_hears, hears}
use Rattle.trial_run.specs.Working.{HasClient}
use Rattle.trial_run.proofs.FieldsChanged.{field_changed}
use Rattle.trial_run.proofs.trial.Trial.hears.Goals as goal

on_ok : {T E : Type 0} (r : Result T E) (A B : Type 0) → (A → B) → OnOk r A → OnOk r B
on_ok (Ok x) A B f h = f h
on_ok (Err e) A B f h = tt

pub returns-in-Field-clause-ok : goal.returns-in-Field-clause-ok
returns-in-Field-clause-ok c =
    let there = subst (λ (w : Whose). HasClient w c.args.self.now) c.in-Field.is c.requires.there in
    on_ok c.field_hears.result _ _
    (λ e. field_changed _ _ c.in-Field.index (field_hears c.args.piece.now) _ _ c.self.view_is there.0
    c.index_mut.ensures.value
    (ap (λ (x : Client State). let f : FieldPlay = record { client = x; is_paused = c.behind-self.inside.is_paused } in
    f)
    e ∙ ap (field_hears c.args.piece.now) c.behind-self.view_is)
    ∙ ap (λ (w : Whose). hears w c.args.piece.now c.args.self.now) (sym c.in-Field.is)) c.field_hears.ensures
