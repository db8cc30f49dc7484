use Rattle.std.proofs.Common.{rules}
use Rattle.trial_field.proofs.field.TrialField.done.Goals as goal

pub returns-clause-step : goal.returns-clause-step
returns-clause-step c = search rules
