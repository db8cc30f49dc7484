-- The recursion goes over the acts that follow.
use Rattle.std.proofs.Common.{length}
use Rattle.relay_plain.proofs.plain.+tell_rest.Given as goal

abbrev pub decreases-tell_rest : goal.decreases-tell_rest
decreases-tell_rest l = length l.acts.now
