use Rattle.std.proofs.Common.{ap, ◌∙◌}
use Rattle.trial_field.specs.Log.{entry_of}
use Rattle.client_side.specs.Client.{Client}
use Rattle.client_side.specs.FieldState.{State}
use Rattle.trial_run.specs.Play.{FieldPlay, field_edits}
use Rattle.trial_run.proofs.FieldsChanged.{field_changed}
use Rattle.trial_run.proofs.trial.Trial.edit.Goals as goal

pub returns-clause-ok : goal.returns-clause-ok
returns-clause-ok c =
    let edit = entry_of c.args.edit.now in
    field_changed _ _ c.args.index (field_edits edit) _ _ c.self.view_is c.requires.there c.index_mut.ensures.value
    (ap (λ (x : Client State). let f : FieldPlay = record { client = x; is_paused = c.behind-self.inside.is_paused } in
    f)
    c.in_ok-edit.ensures.step ∙ ap (field_edits edit) c.behind-self.view_is)
