use Rattle.std.proofs.Common.{rules}
use Rattle.broker_audience.proofs.live.Live.change.Goals as goal

pub returns-clause-changed : goal.returns-clause-changed
returns-clause-changed c = search rules
