use Rattle.std.proofs.Common.{rules}
use Rattle.wio_core.proofs.mem_sink.MemSinkSink.write.Goals as goal

pub returns-then-contains-clause-fails : goal.returns-then-contains-clause-fails
returns-then-contains-clause-fails c = search rules
