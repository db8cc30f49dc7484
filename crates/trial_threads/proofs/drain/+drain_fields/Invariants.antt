use Rattle.std.proofs.Common.{length}
use Rattle.trial_threads.proofs.drain.+drain_fields.Given as goal

abbrev pub decreases-drain_fields : goal.decreases-drain_fields
decreases-drain_fields g l = length l.jobs.now
