-- The recursion goes over the other globals.
use Rattle.std.proofs.Common.{length}
use Rattle.relay_plain.proofs.own.+tell_offers.Given as goal

abbrev pub decreases-tell_offers : goal.decreases-tell_offers
decreases-tell_offers l = length l.offers.now
