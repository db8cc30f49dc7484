use Rattle.std.proofs.Common.{length}
use Rattle.relay_core.proofs.peers.+tell_offers.Given as goal

abbrev pub decreases-tell_offers : goal.decreases-tell_offers
decreases-tell_offers g l = length l.offers.now
