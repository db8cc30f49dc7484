use Rattle.std.proofs.Common.{rules}
use Rattle.client_side.proofs.method_state.put_typed.Goals as goal

pub returns-clause-bytes : goal.returns-clause-bytes
returns-clause-bytes c = search rules
