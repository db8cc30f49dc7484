use Rattle.client_side.proofs.HeardIsLogged.{method_log_goes_on, method_log_is_heard}
use Rattle.client_side.proofs.laws.method_log_law.Goals as goal

pub returns-clause-log : goal.returns-clause-log
returns-clause-log g c = method_log_goes_on g.T.Typist.meanings

pub returns-clause-heard : goal.returns-clause-heard
returns-clause-heard g c = method_log_is_heard g.T.Typist.meanings
