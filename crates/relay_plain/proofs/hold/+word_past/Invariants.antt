-- The recursion goes over the acts before.
use Rattle.std.proofs.Common.{length}
use Rattle.relay_plain.proofs.hold.+word_past.Given as goal

abbrev pub decreases-word_past : goal.decreases-word_past
decreases-word_past l = length l.log.now
