use Rattle.std.proofs.Common.{◌≡◌, ◌++◌, drop}
use Rattle.trial_threads.specs.Users.{orders_in}
use Rattle.trial_threads.proofs.parts.orders_in.Given as goal

-- those so far before those of the actions that are left
abbrev pub invariant-loop-action : goal.invariant-loop-action
invariant-loop-action l =
    l.steps ++ orders_in l.time (drop l.action-index l.actions) ≡ orders_in l.first l.actions
