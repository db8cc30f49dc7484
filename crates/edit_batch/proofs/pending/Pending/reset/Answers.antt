use Rattle.std.proofs.Common.{rules}
use Rattle.edit_batch.proofs.pending.Pending.reset.Goals as goal

pub returns-clause-empty : goal.returns-clause-empty
returns-clause-empty c = search rules
