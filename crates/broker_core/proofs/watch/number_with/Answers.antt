use Rattle.broker_core.proofs.NewestPeer.{number_there, number_nowhere}
use Rattle.broker_core.proofs.watch.number_with.Goals as goal

pub returns-in-Some : goal.returns-in-Some
returns-in-Some c =
    number_there 0 c.in-Some.place c.args.live.now.items c.args.label c.at.result.now c.place_with.ensures.order.labels
    c.in-Some.ensures.found c.at.ensures

pub returns-in-None : goal.returns-in-None
returns-in-None c = number_nowhere c.args.live.now.items c.args.label c.in-None.ensures.none
