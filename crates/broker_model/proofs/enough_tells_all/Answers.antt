use Rattle.broker_model.proofs.EnoughIsTold.{enough_told}
use Rattle.broker_model.proofs.enough_tells_all.Goals as goal

pub returns : goal.returns
returns c = enough_told
