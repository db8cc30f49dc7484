use Rattle.std.proofs.Common.{rules}
use Rattle.client_side.proofs.field_state.FieldState.done.Goals as goal

pub returns-then-serial-self-clause-state : goal.returns-then-serial-self-clause-state
returns-then-serial-self-clause-state c = search rules
