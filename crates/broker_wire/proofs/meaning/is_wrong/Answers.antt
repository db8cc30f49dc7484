use Rattle.std.proofs.Common.{rules}
use Rattle.broker_wire.proofs.meaning.is_wrong.Goals as goal

pub returns-in-Some : goal.returns-in-Some
returns-in-Some c = search rules
