use Rattle.trial_job_laws.proofs.MethodTold.{methods_have_sent}
use Rattle.trial_job_laws.proofs.methods_have_sent.Goals as goal

pub returns : goal.returns
returns c = methods_have_sent
