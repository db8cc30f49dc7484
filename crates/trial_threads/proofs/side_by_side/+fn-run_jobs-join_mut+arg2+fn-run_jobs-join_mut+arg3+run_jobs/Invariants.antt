use Rattle.std.proofs.Common.{length}
use Rattle.trial_threads.proofs.side_by_side.+fn-run_jobs-join_mut+arg2+fn-run_jobs-join_mut+arg3+run_jobs.Given as goal

abbrev pub decreases-join_mut+arg2 : goal.decreases-join_mut+arg2
decreases-join_mut+arg2 g l = length l.front.now

abbrev pub decreases-join_mut+arg3 : goal.decreases-join_mut+arg3
decreases-join_mut+arg3 g l = length l.back.now

abbrev pub decreases-run_jobs : goal.decreases-run_jobs
decreases-run_jobs g l = length l.jobs.now
