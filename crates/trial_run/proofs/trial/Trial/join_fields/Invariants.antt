use Rattle.std.proofs.Common.{◌≡◌, ◌+◌, ◌-◌, length}
use Rattle.trial_run.specs.Trial.{fields_joined}
use Rattle.trial_run.proofs.trial.Trial.join_fields.Given as goal

-- the fields that are left lead to the same
abbrev pub invariant-loop-joined : goal.invariant-loop-joined
invariant-loop-joined l = record {
  left : fields_joined (l.count - l.joined) l.self ≡ fields_joined l.count l.fn.self;
  fields : length l.self.fields ≡ length l.fn.self.fields + l.joined;
}
