use Rattle.std.proofs.Common.{rules}
use Rattle.relay_core.proofs.machine.Machine.count_activate.Goals as goal

pub returns-then-is_some-clause-state : goal.returns-then-is_some-clause-state
returns-then-is_some-clause-state c = search rules
