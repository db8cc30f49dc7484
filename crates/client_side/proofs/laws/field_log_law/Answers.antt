use Rattle.client_side.proofs.HeardIsLogged.{field_log_goes_on, field_log_is_heard}
use Rattle.client_side.proofs.laws.field_log_law.Goals as goal

pub returns-clause-log : goal.returns-clause-log
returns-clause-log c = field_log_goes_on

pub returns-clause-heard : goal.returns-clause-heard
returns-clause-heard c = field_log_is_heard
