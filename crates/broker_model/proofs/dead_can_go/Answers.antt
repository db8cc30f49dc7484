use Rattle.broker_model.proofs.LivingAreEnough.{can_go}
use Rattle.broker_model.proofs.dead_can_go.Goals as goal

pub returns : goal.returns
returns c = can_go
