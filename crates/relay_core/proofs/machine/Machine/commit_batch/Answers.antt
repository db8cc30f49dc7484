use Rattle.std.proofs.Common.{rules}
use Rattle.relay_core.proofs.machine.Machine.commit_batch.Goals as goal

pub returns-clause-told : goal.returns-clause-told
returns-clause-told g c = search rules
