use Rattle.std.proofs.Common.{rules}
use Rattle.relay_model.proofs.fault.Fault.text.Goals as goal

pub returns-in-NewId : goal.returns-in-NewId
returns-in-NewId c = search rules
