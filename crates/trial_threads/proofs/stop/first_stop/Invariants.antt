use Rattle.std.proofs.Common.{◌≡◌, drop}
use Rattle.trial_threads.specs.Stops.{first_stop_in}
use Rattle.trial_threads.proofs.stop.first_stop.Given as goal

-- none of those before stopped
abbrev pub invariant-loop-running : goal.invariant-loop-running
invariant-loop-running l = first_stop_in (drop l.running-index l.jobs) ≡ first_stop_in l.jobs
