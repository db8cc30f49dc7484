use Rattle.std.proofs.Common.{rules}
use Rattle.relay_core.proofs.machine.Machine.hold.Goals as goal

pub activate-requires : goal.activate-requires
activate-requires g c = search rules

pub returns-in-Begun-clause-told : goal.returns-in-Begun-clause-told
returns-in-Begun-clause-told g c = search rules

pub returns-in-Begun-clause-state : goal.returns-in-Begun-clause-state
returns-in-Begun-clause-state g c = search rules
