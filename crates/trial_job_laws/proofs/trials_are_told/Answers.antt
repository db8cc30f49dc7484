use Rattle.trial_job_laws.proofs.TrialTold.{trials_are_told}
use Rattle.trial_job_laws.proofs.trials_are_told.Goals as goal

pub returns : goal.returns
returns c = trials_are_told
