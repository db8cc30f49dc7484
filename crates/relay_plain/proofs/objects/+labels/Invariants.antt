-- The recursion goes over the acts before.
use Rattle.std.proofs.Common.{length}
use Rattle.relay_plain.proofs.objects.+labels.Given as goal

abbrev pub decreases-labels : goal.decreases-labels
decreases-labels l = length l.log.now
