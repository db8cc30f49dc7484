use Rattle.std.proofs.Common.{rules}
use Rattle.broker_wire.proofs.events.event_of.Goals as goal

pub returns : goal.returns
returns c = search rules
