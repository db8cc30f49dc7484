use Rattle.std.proofs.Common.{rules}
use Rattle.wio_core.proofs.line_reader.settle.Goals as goal

pub returns-clause-settled : goal.returns-clause-settled
returns-clause-settled c = search rules
