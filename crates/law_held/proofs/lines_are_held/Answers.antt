use Rattle.law_held.proofs.SessionsHeld.{lines_are_held}
use Rattle.law_held.proofs.lines_are_held.Goals as goal

pub returns : goal.returns
returns c = record { law = lines_are_held }
