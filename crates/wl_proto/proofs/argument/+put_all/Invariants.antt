use Rattle.std.proofs.Common.{length}
use Rattle.wl_proto.proofs.argument.+put_all.Given as goal

abbrev pub decreases-put_all : goal.decreases-put_all
decreases-put_all l = length l.arguments.now
