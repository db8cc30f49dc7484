use Rattle.std.proofs.Common.{◌%◌, ◌^◌, sym, ◌∙◌, ap, subst}
use Rattle.trial_script.specs.declared.script.Script.{Script}
use Rattle.trial_run.specs.Play.{TrialPlay}
use Rattle.trial_run.specs.Trial.{unplayed, played_with, trial_played}
use Rattle.trial_run.specs.Working.{IsRun}
use Rattle.trial_run.proofs.PhasesRun.{script_shown}
use Rattle.trial_run.proofs.run.run_within.Goals as goal

pub returns : goal.returns
returns c =
    let read = c.in_ok-rules in
    let s : Script = read.field-0 in
    let start = c.in_ok-trial.ensures ∙ ap (unplayed c.args.limits) c.in_ok-typist.ensures in
    let run : IsRun (trial_played c.args.limits s) c.script-played.result c.script-played.new.self =
    subst (λ (t : TrialPlay). IsRun (played_with s.fields (s.first_line % 2 ^ 32) s.actions t)
    c.script-played.result c.script-played.new.self) start c.script-played.ensures in
    script_shown c.args.limits c.args.script.now s c.ended.result read.ensures.exact
    (c.ended.ensures (trial_played c.args.limits s) c.script-played.new.self run
    (sym c.into_shown.ensures))
