use Rattle.std.proofs.Common.{◌≡◌, ◌≤◌, ◌-◌, string_bytes}
use Rattle.session_gen.specs.Generated.{step_count}
use Rattle.program_gen.specs.Writing.{Writes}
use Rattle.program_gen.proofs.RunGoesOn.{IsRunOf}
use Rattle.program_gen.proofs.text.write_run.Given as goal

abbrev pub invariant-steps : goal.invariant-steps
invariant-steps g l = record {
  run : IsRunOf l.number l.run;
  writes : Writes l.run (string_bytes l.page) (g.K.Sink.held l.initial.output) (g.K.Sink.held l.output);
  later : g.K.Sink.fault_count l.initial.output ≤ g.K.Sink.fault_count l.output;
  no_fault : g.K.Sink.fault_count l.output ≡ g.K.Sink.fault_count l.initial.output;
}

abbrev pub decreases-steps : goal.decreases-steps
decreases-steps g l = step_count - l.run.session.made
