-- The recursion goes over the acts before.
use Rattle.std.proofs.Common.{length}
use Rattle.relay_plain.proofs.current.+last_enable.Given as goal

abbrev pub decreases-last_enable : goal.decreases-last_enable
decreases-last_enable l = length l.log.now
