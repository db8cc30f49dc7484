use Rattle.trial_laws.proofs.MethodHeardAll.{method_hears_a_front}
use Rattle.trial_laws.proofs.method_hears_a_front.Goals as goal

pub returns : goal.returns
returns c = method_hears_a_front
