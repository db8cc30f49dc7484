use Rattle.std.proofs.Common.{◌≡◌, ◌-◌}
use Rattle.trial_run.specs.Rounds.{rounds}
use Rattle.trial_run.specs.Working.{Stays}
use Rattle.trial_run.proofs.trial.Trial.rounds.Given as goal

-- the rounds that are left lead to the same
abbrev pub invariant-loop-made : goal.invariant-loop-made
invariant-loop-made l = record {
  left : rounds (l.most - l.made) l.self ≡ rounds l.most l.fn.self;
  most : l.most ≡ l.fn.self.most;
  stays : Stays l.fn.self l.self;
}
