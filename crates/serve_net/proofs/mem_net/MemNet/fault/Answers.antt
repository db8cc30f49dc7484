use Rattle.std.proofs.Common.{rules}
use Rattle.serve_net.proofs.mem_net.MemNet.fault.Goals as goal

pub returns-clause-counted : goal.returns-clause-counted
returns-clause-counted g c = search rules
