use Rattle.std.proofs.Common.{length}
use Rattle.trial_threads.proofs.drain.+drain_methods.Given as goal

abbrev pub decreases-drain_methods : goal.decreases-drain_methods
decreases-drain_methods g l = length l.jobs.now
