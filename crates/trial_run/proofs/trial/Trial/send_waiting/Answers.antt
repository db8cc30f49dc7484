use Rattle.std.proofs.Common.{◌<◌, length, refl, sym, ap, subst, ◌∙◌}
use Rattle.trial_run.specs.declared.whose.Whose.{Whose}
use Rattle.trial_run.specs.Play.{FieldPlay, TrialPlay, sends_in}
use Rattle.trial_run.specs.Working.{HasClient}
use Rattle.trial_run.proofs.FieldsChanged.{field_at}
use Rattle.trial_run.proofs.PhasesRun.{waiting_runs}
use Rattle.trial_run.proofs.trial.Trial.send_waiting.Goals as goal

pub returns-in-Method-clause-run : goal.returns-in-Method-clause-run
returns-in-Method-clause-run c =
    waiting_runs _ _ _ c.args.who _ _ _ _ c.send_all.result c.self.view_is c.number_of-number.ensures c.in-Method.is
    c.to_send-bytes.ensures c.send_all.ensures refl

pub returns-in-Field-clause-run : goal.returns-in-Field-clause-run
returns-in-Field-clause-run c =
    let there = subst (λ (w : Whose). HasClient w c.args.self.now) c.in-Field.is c.requires.there in
    let within = subst (λ (t : TrialPlay). c.in-Field.index < length t.fields) (sym c.self.view_is) there.0 in
    let at = field_at c.in-Field.index _ c.index.result.now within c.index.ensures in
    waiting_runs _ _ _ c.args.who _ _ _ _ c.send_all-in-Field.result c.self.view_is c.number_of-number.ensures
    c.in-Field.is
    (c.to_send-bytes-in-Field.ensures
    ∙ ap (λ (f : FieldPlay). f.client.state.to_send) c.behind-self.view_is ∙ ap sends_in (sym at))
    c.send_all-in-Field.ensures refl
