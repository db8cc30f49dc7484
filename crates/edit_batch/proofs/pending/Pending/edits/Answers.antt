use Rattle.std.proofs.Common.{rules}
use Rattle.edit_batch.proofs.pending.Pending.edits.Goals as goal

pub returns-clause-string : goal.returns-clause-string
returns-clause-string c = search rules
