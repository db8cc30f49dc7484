use Rattle.broker_model.proofs.EntriesTold.{entries_living}
use Rattle.broker_model.proofs.entries_tell_living.Goals as goal

pub returns : goal.returns
returns c = entries_living
