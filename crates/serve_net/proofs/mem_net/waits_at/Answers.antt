use Rattle.std.proofs.Common.{rules}
use Rattle.serve_net.proofs.mem_net.waits_at.Goals as goal

pub returns-clause-yes : goal.returns-clause-yes
returns-clause-yes c = search rules
