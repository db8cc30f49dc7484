use Rattle.broker_model.proofs.ToldAreLiving.{told_living}
use Rattle.broker_model.proofs.acts_tell_living.Goals as goal

pub returns : goal.returns
returns c = told_living
