use Rattle.std.proofs.Common.{rules}
use Rattle.broker_core.proofs.watch.show_group.Goals as goal

pub returns : goal.returns
returns g c = search rules
