use Rattle.std.proofs.Common.{rules}
use Rattle.relay_core.proofs.machine.Machine.is_live.Goals as goal

pub returns-in-Commit : goal.returns-in-Commit
returns-in-Commit c = search rules
