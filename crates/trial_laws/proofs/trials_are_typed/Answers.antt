use Rattle.trial_laws.proofs.TrialsTyped.{trials_are_typed}
use Rattle.trial_laws.proofs.trials_are_typed.Goals as goal

pub returns : goal.returns
returns c = trials_are_typed
