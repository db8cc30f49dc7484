use Rattle.std.proofs.Common.{rules}
use Rattle.hub_lock.proofs.call.Answer.is_made.Goals as goal

pub returns-in-Applied : goal.returns-in-Applied
returns-in-Applied c = search rules
