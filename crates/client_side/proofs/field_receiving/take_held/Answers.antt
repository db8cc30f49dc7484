use Rattle.std.proofs.Common.{rules}
use Rattle.client_side.proofs.field_receiving.take_held.Goals as goal

pub returns-clause-taken : goal.returns-clause-taken
returns-clause-taken g c = search rules
