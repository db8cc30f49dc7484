use Rattle.std.proofs.Common.{◌-◌}
use Rattle.broker_core.specs.Broker.{Broker}
use Rattle.c_broker.specs.Open.{IsOpen}
use Rattle.c_broker.proofs.open.OpenPeers.note.Given as goal

-- what the list said it still says
abbrev pub invariant-joined : goal.invariant-joined
invariant-joined l =
    (b : Broker) → IsOpen b l.fn.self.numbers.items l.fn.self.seen → IsOpen b l.self.numbers.items l.self.seen

abbrev pub decreases-joined : goal.decreases-joined
decreases-joined l = l.count - l.self.seen
