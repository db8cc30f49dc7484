use Rattle.std.proofs.Common.{rules}
use Rattle.hub_lock.proofs.state.stamp_by.Goals as goal

pub returns : goal.returns
returns c = search rules
