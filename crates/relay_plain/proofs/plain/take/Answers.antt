use Rattle.std.proofs.Common.{rules}
use Rattle.relay_plain.proofs.plain.take.Goals as goal

pub returns-clause-history : goal.returns-clause-history
returns-clause-history c = search rules
