use Rattle.std.proofs.Common.{◌≡◌, ◌++◌, List, length}
use Rattle.hub_lock.specs.Passes.{IsOf}
use Rattle.trial_threads.specs.declared.running.Running.{Running}
use Rattle.trial_threads.specs.Jobs.{AreJobsOf}
use Rattle.trial_threads.specs.Back.{TookAllBack}
use Rattle.trial_threads.proofs.collect.collect.Given as goal

-- the passes of the jobs before those that are left are back
abbrev pub invariant-loop-left : goal.invariant-loop-left
invariant-loop-left l = record {
  own : IsOf l.hub l.root;
  of : AreJobsOf l.hub l.left.items;
  back : (done : List Running) × (done ++ l.left.items ≡ l.fn.jobs.items)
      × TookAllBack l.initial.root l.root done l.logs.fields l.logs.method;
}

abbrev pub decreases-loop-left : goal.decreases-loop-left
decreases-loop-left l = length l.left.items
