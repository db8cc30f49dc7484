use Rattle.std.proofs.Common.{ap}
use Rattle.trial_run.specs.Play.{FieldPlay}
use Rattle.trial_run.proofs.FieldsChanged.{field_changed}
use Rattle.trial_run.proofs.trial.Trial.pause.Goals as goal

pub returns-clause-now : goal.returns-clause-now
returns-clause-now c =
    let paused = λ (x : FieldPlay). let f : FieldPlay = record x { is_paused = c.args.is_paused } in f in
    field_changed _ _ c.args.index paused _ _ c.self.view_is c.requires c.index_mut.ensures.value
    (ap paused c.behind-self.view_is)
