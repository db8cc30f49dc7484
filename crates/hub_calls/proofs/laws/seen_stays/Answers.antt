use Rattle.hub_calls.proofs.PassesCounted.{seen_stays}
use Rattle.hub_calls.proofs.laws.seen_stays.Goals as goal

pub returns : goal.returns
returns c = seen_stays
