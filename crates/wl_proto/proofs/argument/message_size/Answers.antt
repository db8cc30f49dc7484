use Rattle.std.proofs.Common.{rules}
use Rattle.wl_proto.proofs.argument.message_size.Goals as goal

pub returns : goal.returns
returns c = search rules
