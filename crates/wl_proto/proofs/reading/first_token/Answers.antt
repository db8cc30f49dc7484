use Rattle.std.proofs.Common.{rules}
use Rattle.wl_proto.proofs.reading.first_token.Goals as goal

pub returns-in-len1-up : goal.returns-in-len1-up
returns-in-len1-up c = search rules
