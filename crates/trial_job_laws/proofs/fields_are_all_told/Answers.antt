use Rattle.trial_job_laws.proofs.FieldAll.{fields_are_all_told}
use Rattle.trial_job_laws.proofs.fields_are_all_told.Goals as goal

pub returns : goal.returns
returns c = fields_are_all_told
