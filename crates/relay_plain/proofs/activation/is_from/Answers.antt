use Rattle.std.proofs.Common.{rules}
use Rattle.relay_plain.proofs.activation.is_from.Goals as goal

pub returns-in-Some-Some : goal.returns-in-Some-Some
returns-in-Some-Some c = search rules
