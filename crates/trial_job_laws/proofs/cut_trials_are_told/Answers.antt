use Rattle.trial_job_laws.proofs.TrialTold.{cut_trials_are_told}
use Rattle.trial_job_laws.proofs.cut_trials_are_told.Goals as goal

pub returns : goal.returns
returns c = cut_trials_are_told
