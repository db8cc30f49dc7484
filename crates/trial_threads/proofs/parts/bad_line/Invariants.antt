use Rattle.std.proofs.Common.{◌≡◌, drop}
use Rattle.trial_threads.specs.Users.{bad_line_from}
use Rattle.trial_threads.proofs.parts.bad_line.Given as goal

-- none of those before is foreign
abbrev pub invariant-loop-action : goal.invariant-loop-action
invariant-loop-action l =
    bad_line_from l.number (drop l.action-index l.actions) l.ending ≡ bad_line_from l.first l.actions l.ending
