use Rattle.std.proofs.Common.{◌≡◌, drop}
use Rattle.trial_run.specs.Lines.{actions_played}
use Rattle.trial_run.specs.Working.{Stays}
use Rattle.trial_run.proofs.trial.Trial.actions.Given as goal

-- the actions that are left lead to the same
abbrev pub invariant-loop-action : goal.invariant-loop-action
invariant-loop-action l = record {
  left : actions_played l.time (drop l.action-index l.actions) l.self ≡ actions_played l.first l.actions l.fn.self;
  stays : Stays l.fn.self l.self;
}
