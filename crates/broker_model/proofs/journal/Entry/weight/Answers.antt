use Rattle.std.proofs.Common.{rules}
use Rattle.broker_model.proofs.journal.Entry.weight.Goals as goal

pub returns-in-Tokens : goal.returns-in-Tokens
returns-in-Tokens c = search rules
