use Rattle.std.proofs.Common.{rules}
use Rattle.serve_unix.proofs.unix_net.UnixNetNet.accept.Goals as goal

pub returns-clause-link : goal.returns-clause-link
returns-clause-link g c = search rules
