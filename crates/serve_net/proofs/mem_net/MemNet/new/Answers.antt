use Rattle.std.proofs.Common.{rules}
use Rattle.serve_net.proofs.mem_net.MemNet.new.Goals as goal

pub returns : goal.returns
returns c = search rules
