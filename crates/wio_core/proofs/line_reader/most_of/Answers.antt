use Rattle.std.proofs.Common.{rules}
use Rattle.wio_core.proofs.line_reader.most_of.Goals as goal

pub returns-in-Some-clause-within : goal.returns-in-Some-clause-within
returns-in-Some-clause-within c = search rules
