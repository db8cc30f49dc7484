use Rattle.std.proofs.Common.{rules}
use Rattle.serve_unix.proofs.unix_net.UnixNetNet.listen.Goals as goal

pub returns-in-Method-clause-opens : goal.returns-in-Method-clause-opens
returns-in-Method-clause-opens g c = search rules
