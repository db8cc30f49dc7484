use Rattle.std.proofs.Common.{◌≡◌, drop}
use Rattle.trial_threads.specs.Drained.{seen_by_method, most_of, least_for_fields}
use Rattle.trial_threads.proofs.drain.least_for_fields.Given as goal

-- the most so far, and of what is left
abbrev pub invariant-loop-running : goal.invariant-loop-running
invariant-loop-running l = most_of seen_by_method l.least (drop l.running-index l.jobs) ≡ least_for_fields l.jobs
