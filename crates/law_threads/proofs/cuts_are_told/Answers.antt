use Rattle.law_threads.proofs.CutTold.{cuts_are_told}
use Rattle.law_threads.proofs.cuts_are_told.Goals as goal

pub returns : goal.returns
returns c = cuts_are_told
