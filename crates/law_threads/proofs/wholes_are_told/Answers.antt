use Rattle.law_threads.proofs.WholeTold.{wholes_are_told}
use Rattle.law_threads.proofs.wholes_are_told.Goals as goal

pub returns : goal.returns
returns c = wholes_are_told
