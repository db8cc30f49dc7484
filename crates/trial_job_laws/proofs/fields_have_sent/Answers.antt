use Rattle.trial_job_laws.proofs.FieldTold.{fields_have_sent}
use Rattle.trial_job_laws.proofs.fields_have_sent.Goals as goal

pub returns : goal.returns
returns c = fields_have_sent
