-- The recursion goes over the acts before.
use Rattle.std.proofs.Common.{length}
use Rattle.relay_plain.proofs.objects.+object.Given as goal

abbrev pub decreases-object : goal.decreases-object
decreases-object l = length l.log.now
