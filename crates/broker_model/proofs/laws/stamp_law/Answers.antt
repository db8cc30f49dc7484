use Rattle.broker_model.proofs.StampsAgain.{as_many, rises, again}
use Rattle.broker_model.proofs.laws.stamp_law.Goals as goal

pub returns-clause-each : goal.returns-clause-each
returns-clause-each c = as_many

pub returns-clause-rise : goal.returns-clause-rise
returns-clause-rise c = rises

pub returns-clause-again : goal.returns-clause-again
returns-clause-again c = again
