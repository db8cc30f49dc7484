use Rattle.std.proofs.Common.{refl}
use Rattle.broker_model.specs.declared.journal.Entry.TheVariants as entries
use Rattle.trial_run.specs.Steps.{stepped}
use Rattle.trial_run.specs.Lines.{shell_says}
use Rattle.trial_run.proofs.RunsInTurn.{shared_runs}
use Rattle.trial_run.proofs.trial.Trial.shell.Goals as goal

pub returns-clause-run : goal.returns-clause-run
unfolding shell_says
returns-clause-run c =
    shared_runs _ _ _ (stepped (entries.Shell c.args.says)) _ c.step.result c.self.view_is c.step.ensures refl
