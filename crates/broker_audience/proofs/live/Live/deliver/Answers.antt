use Rattle.std.proofs.Common.{rules}
use Rattle.broker_audience.proofs.live.Live.deliver.Goals as goal

pub returns-else-not-put_group : goal.returns-else-not-put_group
returns-else-not-put_group c = search rules
