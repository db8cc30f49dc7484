use Rattle.trial_job_laws.proofs.MethodAll.{methods_have_keys}
use Rattle.trial_job_laws.proofs.methods_have_keys.Goals as goal

pub returns : goal.returns
returns c = methods_have_keys
