use Rattle.std.proofs.Common.{rules}
use Rattle.trial_field.proofs.places.window_around.Goals as goal

pub returns-clause-window : goal.returns-clause-window
returns-clause-window c = search rules
