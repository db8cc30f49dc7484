use Rattle.std.proofs.Common.{length}
use Rattle.wl_proto.proofs.argument.+len_of_all.Given as goal

abbrev pub decreases-len_of_all : goal.decreases-len_of_all
decreases-len_of_all l = length l.arguments.now
