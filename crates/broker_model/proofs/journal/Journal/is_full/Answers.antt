use Rattle.std.proofs.Common.{rules}
use Rattle.broker_model.proofs.journal.Journal.is_full.Goals as goal

pub returns-else-limits-self-2 : goal.returns-else-limits-self-2
returns-else-limits-self-2 c = search rules
