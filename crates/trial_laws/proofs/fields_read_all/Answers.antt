use Rattle.trial_laws.proofs.TextsBatched.{fields_read_all}
use Rattle.trial_laws.proofs.fields_read_all.Goals as goal

pub returns : goal.returns
returns c = fields_read_all
