use Rattle.std.proofs.Common.{rules}
use Rattle.relay_plain.proofs.batch.batch.Goals as goal

pub returns : goal.returns
returns c = search rules
