use Rattle.hub_lock.proofs.TakersRung.{takers_rung}
use Rattle.hub_lock.proofs.laws.takers_are_rung.Goals as goal

pub returns : goal.returns
returns c = record { law = takers_rung }
