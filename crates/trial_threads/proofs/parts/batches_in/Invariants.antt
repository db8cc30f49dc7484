use Rattle.std.proofs.Common.{◌≡◌, ◌++◌, drop}
use Rattle.trial_threads.specs.Users.{batches_in}
use Rattle.trial_threads.proofs.parts.batches_in.Given as goal

-- those so far before those of the actions that are left
abbrev pub invariant-loop-action : goal.invariant-loop-action
invariant-loop-action l =
    l.batches ++ batches_in (drop l.action-index l.actions) ≡ batches_in l.actions
