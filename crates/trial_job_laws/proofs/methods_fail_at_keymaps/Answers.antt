use Rattle.trial_job_laws.proofs.BadEvents.{methods_fail_at_keymaps}
use Rattle.trial_job_laws.proofs.methods_fail_at_keymaps.Goals as goal

pub returns : goal.returns
returns c = methods_fail_at_keymaps
