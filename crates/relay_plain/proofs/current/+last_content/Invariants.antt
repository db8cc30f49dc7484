-- The recursion goes over the acts before.
use Rattle.std.proofs.Common.{length}
use Rattle.relay_plain.proofs.current.+last_content.Given as goal

abbrev pub decreases-last_content : goal.decreases-last_content
decreases-last_content l = length l.log.now
