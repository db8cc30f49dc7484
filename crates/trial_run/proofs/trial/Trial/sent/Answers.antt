use Rattle.std.proofs.Common.{sym, ap, ◌∙◌, subst}
use Rattle.client_side.specs.Client.{Client}
use Rattle.client_side.specs.FieldState.{State}
use Rattle.trial_run.specs.declared.whose.Whose.{Whose}
use Rattle.trial_run.specs.Play.{FieldPlay, field_sent, sent}
use Rattle.trial_run.specs.Working.{HasClient}
use Rattle.trial_run.proofs.FieldsChanged.{field_changed}
use Rattle.trial_run.proofs.trial.Trial.sent.Goals as goal

pub returns-in-Field-clause-now : goal.returns-in-Field-clause-now
returns-in-Field-clause-now c =
    let there = subst (λ (w : Whose). HasClient w c.args.self.now) c.in-Field.is c.requires.there in
    field_changed _ _ c.in-Field.index field_sent _ _ c.self.view_is there.0 c.index_mut.ensures.value
    (ap (λ (x : Client State). let f : FieldPlay = record { client = x; is_paused = c.behind-self.inside.is_paused } in
    f)
    c.sent-in-Field.ensures.now ∙ ap field_sent c.behind-self.view_is)
    ∙ ap (λ (w : Whose). sent w c.args.self.now) (sym c.in-Field.is)
