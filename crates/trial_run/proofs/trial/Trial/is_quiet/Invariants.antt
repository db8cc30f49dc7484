use Rattle.std.proofs.Common.{◌≡◌, ◌-◌, length}
use Rattle.trial_run.specs.Rounds.{fields_quiet, is_quiet}
use Rattle.trial_run.proofs.trial.Trial.is_quiet.Given as goal

abbrev pub invariant-loop-index : goal.invariant-loop-index
invariant-loop-index l = fields_quiet (length l.self.fields - l.index) l.index l.self ≡ is_quiet l.self
