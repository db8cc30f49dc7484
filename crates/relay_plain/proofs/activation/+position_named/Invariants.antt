-- The recursion goes over the dones before.
use Rattle.relay_plain.proofs.activation.+position_named.Given as goal

abbrev pub decreases-position_named : goal.decreases-position_named
decreases-position_named l = l.dones
