use Rattle.std.proofs.Common.{rules}
use Rattle.relay_plain.proofs.current.current.Goals as goal

pub returns : goal.returns
returns c = search rules
