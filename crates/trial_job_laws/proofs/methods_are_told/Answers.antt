use Rattle.trial_job_laws.proofs.MethodTold.{methods_are_told}
use Rattle.trial_job_laws.proofs.methods_are_told.Goals as goal

pub returns : goal.returns
returns c = methods_are_told
