use Rattle.std.proofs.Common.{rules}
use Rattle.serve_net.proofs.mem_net.MemNetNet.listen.Goals as goal

pub returns-in-Method-clause-opens : goal.returns-in-Method-clause-opens
returns-in-Method-clause-opens c = search rules
