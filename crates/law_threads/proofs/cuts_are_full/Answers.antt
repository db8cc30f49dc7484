use Rattle.law_threads.proofs.CutFull.{cuts_are_full}
use Rattle.law_threads.proofs.cuts_are_full.Goals as goal

pub returns : goal.returns
returns c = cuts_are_full
