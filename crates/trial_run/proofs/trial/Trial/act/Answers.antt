use Rattle.std.proofs.Common.{◌-◌, sym, ap, subst, ◌∙◌}
use Rattle.trial_field.specs.Log as logs
use Rattle.trial_script.specs.declared.action.Action.{Action}
use Rattle.trial_run.specs.declared.whose.Whose.TheVariants as whose
use Rattle.trial_run.specs.Ran.{went}
use Rattle.trial_run.specs.Play.{TrialPlay, edits, commits}
use Rattle.trial_run.specs.Rounds.{sends}
use Rattle.trial_run.specs.Lines.{acted}
use Rattle.trial_run.specs.Working.{IsRun}
use Rattle.trial_run.proofs.trial.Trial.act.Goals as goal

pub returns-in-Use-clause-run : goal.returns-in-Use-clause-run
unfolding acted
returns-in-Use-clause-run c =
    subst (λ (a : Action). IsRun (acted c.args.time a c.args.self.now) c.shell.result c.shell.new.self)
    (sym c.in-Use.is) c.shell.ensures.run

pub returns-in-Leave-clause-run : goal.returns-in-Leave-clause-run
unfolding acted
returns-in-Leave-clause-run c =
    subst (λ (a : Action). IsRun
    (acted c.args.time a c.args.self.now) c.shell-in-Leave.result c.shell-in-Leave.new.self)
    (sym c.in-Leave.is) c.shell-in-Leave.ensures.run

pub returns-in-Press-clause-run : goal.returns-in-Press-clause-run
unfolding acted
returns-in-Press-clause-run c =
    subst (λ (a : Action). IsRun (acted c.args.time a c.args.self.now) c.press.result c.press.new.self)
    (sym c.in-Press.is) c.press.ensures.run

pub returns-in_ok-commit-in-Batch-clause-run : goal.returns-in_ok-commit-in-Batch-clause-run
unfolding acted
returns-in_ok-commit-in-Batch-clause-run c =
    subst (λ (a : Action). IsRun (acted c.args.time a c.args.self.now) c.sends.result c.sends.new.self)
    (sym c.in-Batch.is)
    (subst (λ (t : TrialPlay). IsRun (sends whose.Method t) c.sends.result c.sends.new.self)
    (c.in_ok-commit-in-Batch.ensures.ok
    ∙ ap (λ (b : logs.Batch). commits b c.args.self.now) c.batch_of.ensures.value) c.sends.ensures.run)

pub returns-in_ok-edit-in-Edit-clause-run : goal.returns-in_ok-edit-in-Edit-clause-run
unfolding acted
returns-in_ok-edit-in-Edit-clause-run c =
    let k = c.in-Edit.field - 1 in
    subst (λ (a : Action). IsRun (acted c.args.time a c.args.self.now) c.sends-in-Edit.result c.sends-in-Edit.new.self)
    (sym c.in-Edit.is)
    (subst (λ (t : TrialPlay). IsRun (sends (whose.Field k) t) c.sends-in-Edit.result c.sends-in-Edit.new.self)
    (c.in_ok-edit-in-Edit.ensures.ok
    ∙ ap (λ (e : logs.Entry). edits k e c.args.self.now) c.edit_of.ensures.value) c.sends-in-Edit.ensures.run)

pub returns-in-Pause-clause-run : goal.returns-in-Pause-clause-run
unfolding acted
returns-in-Pause-clause-run c =
    ap (λ (a : Action). acted c.args.time a c.args.self.now) c.in-Pause.is
    ∙ ap (λ (t : TrialPlay). went t) (sym c.pause.ensures.now)

pub returns-in-Resume-clause-run : goal.returns-in-Resume-clause-run
unfolding acted
returns-in-Resume-clause-run c =
    ap (λ (a : Action). acted c.args.time a c.args.self.now) c.in-Resume.is
    ∙ ap (λ (t : TrialPlay). went t) (sym c.pause-in-Resume.ensures.now)

pub returns-in_ok-show-in-Show-clause-run : goal.returns-in_ok-show-in-Show-clause-run
unfolding acted
returns-in_ok-show-in-Show-clause-run c =
    ap (λ (a : Action). acted c.args.time a c.args.self.now) c.in-Show.is
    ∙ ap (λ (t : TrialPlay). went t) (sym c.in_ok-show-in-Show.ensures.ok)
