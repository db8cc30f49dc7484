use Rattle.law_audit.proofs.SeenOwed.{seen_owed}
use Rattle.law_audit.proofs.seen_is_owed.Goals as goal

pub returns : goal.returns
returns c = seen_owed
