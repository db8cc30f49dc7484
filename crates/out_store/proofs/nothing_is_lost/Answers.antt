use Rattle.out_store.proofs.StoreCalls.{nothing_is_lost}
use Rattle.out_store.proofs.nothing_is_lost.Goals as goal

pub returns : goal.returns
returns c = nothing_is_lost
