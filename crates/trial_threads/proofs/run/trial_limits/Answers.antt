use Rattle.std.proofs.Common.{refl}
use Rattle.trial_run.specs.Trial.{trial_limits}
use Rattle.trial_threads.proofs.run.trial_limits.Goals as goal

pub returns-clause-value : goal.returns-clause-value
unfolding trial_limits
returns-clause-value c = refl
