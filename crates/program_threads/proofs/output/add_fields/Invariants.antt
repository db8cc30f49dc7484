use Rattle.std.proofs.Common.{◌≡◌, ◌++◌, take, string_bytes}
use Rattle.program_threads.specs.Output.{shown_from}
use Rattle.program_threads.proofs.output.add_fields.Given as goal

abbrev pub invariant-loop-log : goal.invariant-loop-log
invariant-loop-log l = record {
  number : l.number ≡ l.log-index;
  text : string_bytes l.text ≡ string_bytes l.initial.text ++ shown_from 1 (take l.log-index l.logs);
}
