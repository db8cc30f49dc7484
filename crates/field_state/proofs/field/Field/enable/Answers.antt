use Rattle.std.proofs.Common.{rules}
use Rattle.field_state.proofs.field.Field.enable.Goals as goal

pub returns-then-self-clause-now : goal.returns-then-self-clause-now
returns-then-self-clause-now c = search rules
