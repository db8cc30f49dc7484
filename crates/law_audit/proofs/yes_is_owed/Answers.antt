use Rattle.law_audit.proofs.YesOwed.{yes_owed}
use Rattle.law_audit.proofs.yes_is_owed.Goals as goal

pub returns : goal.returns
returns c = yes_owed
