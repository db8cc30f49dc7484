use Rattle.seat_set.proofs.FirstSteps.{nothing_yet, last_step}
use Rattle.seat_set.proofs.unread.Unread.read.Goals as goal

pub returns-in-Nothing-clause-found : goal.returns-in-Nothing-clause-found
returns-in-Nothing-clause-found c = nothing_yet c.args.self.now.number _ _ c.in-Nothing.ensures

pub returns-in-BadSize-clause-found : goal.returns-in-BadSize-clause-found
returns-in-BadSize-clause-found c = last_step c.args.self.now.number c.in-BadSize.head _ c.in-BadSize.ensures
