use Rattle.trial_laws.proofs.MethodReads.{method_hears_what_is_told}
use Rattle.trial_laws.proofs.method_hears_what_is_told.Goals as goal

pub returns : goal.returns
returns c = method_hears_what_is_told
