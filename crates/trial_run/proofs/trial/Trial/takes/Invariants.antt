use Rattle.std.proofs.Common.{◌≡◌, ◌-◌}
use Rattle.trial_run.specs.Rounds.{takes}
use Rattle.trial_run.specs.Working.{Stays}
use Rattle.trial_run.proofs.trial.Trial.takes.Given as goal

-- the takes that are left lead to the same
abbrev pub invariant-loop-taken : goal.invariant-loop-taken
invariant-loop-taken l = record {
  left : takes (l.most - l.taken) l.who l.self ≡ takes l.most l.who l.fn.self;
  most : l.most ≡ l.fn.self.most;
  stays : Stays l.fn.self l.self;
}
