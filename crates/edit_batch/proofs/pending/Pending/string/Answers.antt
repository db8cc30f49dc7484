use Rattle.std.proofs.Common.{rules}
use Rattle.edit_batch.proofs.pending.Pending.string.Goals as goal

pub returns-clause-replaced : goal.returns-clause-replaced
returns-clause-replaced c = search rules
