use Rattle.std.proofs.Common.{rules}
use Rattle.field_state.proofs.field.Field.displace.Goals as goal

pub returns-clause-now : goal.returns-clause-now
returns-clause-now c = search rules
