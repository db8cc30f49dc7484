use Rattle.std.proofs.Common.{◌≡◌, ◌++◌, drop}
use Rattle.trial_threads.specs.Users.{edits_in}
use Rattle.trial_threads.proofs.parts.edits_in.Given as goal

-- those so far before those of the actions that are left
abbrev pub invariant-loop-action : goal.invariant-loop-action
invariant-loop-action l =
    l.edits ++ edits_in l.number (drop l.action-index l.actions) ≡ edits_in l.number l.actions
