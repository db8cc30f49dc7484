use Rattle.std.proofs.Common.{rules}
use Rattle.wio_core.proofs.line_reader.read_more.Goals as goal

pub returns-then-most-eq0-clause-stop : goal.returns-then-most-eq0-clause-stop
returns-then-most-eq0-clause-stop g c = search rules
