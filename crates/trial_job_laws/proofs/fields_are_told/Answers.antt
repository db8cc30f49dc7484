use Rattle.trial_job_laws.proofs.FieldTold.{fields_are_told}
use Rattle.trial_job_laws.proofs.fields_are_told.Goals as goal

pub returns : goal.returns
returns c = fields_are_told
