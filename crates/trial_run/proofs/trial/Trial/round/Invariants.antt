use Rattle.std.proofs.Common.{◌≡◌, ◌-◌, length}
use Rattle.trial_run.specs.Rounds.{field_turns, round}
use Rattle.trial_run.specs.Working.{Stays}
use Rattle.trial_run.proofs.trial.Trial.round.Given as goal

-- the turns that are left lead to the same
abbrev pub invariant-loop-index : goal.invariant-loop-index
invariant-loop-index l = record {
  left : field_turns (length l.fn.self.fields - l.index) l.index l.self ≡ round l.fn.self;
  count : l.index-end ≡ length l.fn.self.fields;
  stays : Stays l.fn.self l.self;
}
