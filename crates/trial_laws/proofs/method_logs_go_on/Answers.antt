use Rattle.trial_laws.proofs.MethodLogged.{method_logs_go_on}
use Rattle.trial_laws.proofs.method_logs_go_on.Goals as goal

pub returns : goal.returns
returns c = method_logs_go_on
