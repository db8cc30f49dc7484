use Rattle.std.proofs.Common.{rules}
use Rattle.client_side.proofs.field_state.FieldState.take.Goals as goal

pub returns-in-CommitString-clause-state : goal.returns-in-CommitString-clause-state
returns-in-CommitString-clause-state g c = search rules
