use Rattle.std.proofs.Common.{rules}
use Rattle.relay_core.proofs.machine.Machine.drop_object.Goals as goal

pub returns-clause-told : goal.returns-clause-told
returns-clause-told g c = search rules

pub returns-clause-state : goal.returns-clause-state
returns-clause-state g c = search rules
