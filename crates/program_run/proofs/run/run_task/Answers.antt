use Rattle.std.proofs.Common.{refl}
use Rattle.program_run.specs.declared.command.Task.TheVariants as tasks
use Rattle.program_run.proofs.RunsWrite.{task_ran, task_law, no_law, must_read}
use Rattle.program_run.proofs.run.run_task.Goals as goal

pub returns-in-Lines-clause-ran : goal.returns-in-Lines-clause-ran
returns-in-Lines-clause-ran g c =
    task_ran c.args.task (tasks.Lines c.in-Lines.command) _ _ _ _ _ _ _ _ c.in-Lines.is c.replay.ensures.ran

pub returns-in-Lines-clause-line_by_line : goal.returns-in-Lines-clause-line_by_line
returns-in-Lines-clause-line_by_line g c =
    task_law c.args.task c.in-Lines.command _ c.in-Lines.is c.replay.ensures.line_by_line

pub returns-in-Lines-clause-unread : goal.returns-in-Lines-clause-unread
returns-in-Lines-clause-unread g c = λ nothing.
    must_read c.args.task (tasks.Lines c.in-Lines.command) _ c.in-Lines.is refl nothing

pub returns-in-Trial-clause-ran : goal.returns-in-Trial-clause-ran
returns-in-Trial-clause-ran g c =
    task_ran c.args.task tasks.Trial _ _ _ _ _ _ _ _ c.in-Trial.is c.run_script.ensures.ran

pub returns-in-Trial-clause-line_by_line : goal.returns-in-Trial-clause-line_by_line
returns-in-Trial-clause-line_by_line g c = no_law c.args.task tasks.Trial _ c.in-Trial.is refl

pub returns-in-Trial-clause-unread : goal.returns-in-Trial-clause-unread
returns-in-Trial-clause-unread g c = λ nothing. must_read c.args.task tasks.Trial _ c.in-Trial.is refl nothing

pub returns-in-Gen-clause-ran : goal.returns-in-Gen-clause-ran
returns-in-Gen-clause-ran g c =
    task_ran c.args.task (tasks.Gen c.in-Gen.number) _ _ _ _ _ _ _ _ c.in-Gen.is (c.write_counts.ensures.ran _ _)

pub returns-in-Gen-clause-line_by_line : goal.returns-in-Gen-clause-line_by_line
returns-in-Gen-clause-line_by_line g c = no_law c.args.task (tasks.Gen c.in-Gen.number) _ c.in-Gen.is refl

pub returns-in-GenText-clause-ran : goal.returns-in-GenText-clause-ran
returns-in-GenText-clause-ran g c =
    task_ran c.args.task (tasks.GenText c.in-GenText.number) _ _ _ _ _ _ _ _ c.in-GenText.is
    (c.write_generated.ensures.ran _ _)

pub returns-in-GenText-clause-line_by_line : goal.returns-in-GenText-clause-line_by_line
returns-in-GenText-clause-line_by_line g c =
    no_law c.args.task (tasks.GenText c.in-GenText.number) _ c.in-GenText.is refl
