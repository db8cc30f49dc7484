use Rattle.std.proofs.Common.{rules}
use Rattle.relay_model.proofs.fault.Fault.code.Goals as goal

pub returns-in-TooMany : goal.returns-in-TooMany
returns-in-TooMany c = search rules
