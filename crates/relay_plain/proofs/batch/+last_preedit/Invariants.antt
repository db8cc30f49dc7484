-- The recursion goes over the acts before.
use Rattle.std.proofs.Common.{length}
use Rattle.relay_plain.proofs.batch.+last_preedit.Given as goal

abbrev pub decreases-last_preedit : goal.decreases-last_preedit
decreases-last_preedit l = length l.log.now
