use Rattle.std.proofs.Common.{rules}
use Rattle.broker_audience.proofs.listeners.cause_of.Goals as goal

pub returns-else-peer-2 : goal.returns-else-peer-2
returns-else-peer-2 c = search rules

pub returns-then-peer-2 : goal.returns-then-peer-2
returns-then-peer-2 c = search rules
