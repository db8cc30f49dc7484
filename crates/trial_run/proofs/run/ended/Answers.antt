use Rattle.std.proofs.Common.{rules}
use Rattle.trial_run.proofs.run.ended.Goals as goal

pub returns-in-Ok-Unended : goal.returns-in-Ok-Unended
returns-in-Ok-Unended c = search rules
