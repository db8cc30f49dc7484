-- The recursion goes over the other fields.
use Rattle.std.proofs.Common.{length}
use Rattle.relay_plain.proofs.told.+tell_crossed.Given as goal

abbrev pub decreases-tell_crossed : goal.decreases-tell_crossed
decreases-tell_crossed l = length l.fields.now
