use Rattle.std.proofs.Common.{◌-◌}
use Rattle.session_gen.specs.Generated.{step_count}
use Rattle.program_gen.proofs.RunGoesOn.{IsRunOf}
use Rattle.program_gen.proofs.running.count_run.Given as goal

abbrev pub invariant-loop-alloc : goal.invariant-loop-alloc
invariant-loop-alloc l = IsRunOf l.number l.run

abbrev pub decreases-loop-alloc : goal.decreases-loop-alloc
decreases-loop-alloc l = step_count - l.run.session.made
