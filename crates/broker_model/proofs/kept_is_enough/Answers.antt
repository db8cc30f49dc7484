use Rattle.broker_model.proofs.KeptIsEnough.{kept_enough}
use Rattle.broker_model.proofs.kept_is_enough.Goals as goal

pub returns : goal.returns
returns c = kept_enough
