use Rattle.std.proofs.Common.{◌≡◌, ◌≤◌}
use Rattle.program_run.specs.Reading.{bytes_ahead}
use Rattle.program_run.proofs.RunOnItsWay.{Going}
use Rattle.program_run.proofs.follow.play_input.Given as goal

-- the input is read up to the lines that were played, and what they came to is written or ready
abbrev pub invariant-lines : goal.invariant-lines
invariant-lines g l = record {
  going : Going l.limit g.P.Script.answer (g.P.Script.stands l.script) (g.P.Script.holds l.script)
      (g.S.Source.given l.initial.input) (g.S.Source.left l.initial.input)
      (g.S.Source.given l.input) (g.S.Source.left l.input)
      (g.K.Sink.held l.initial.output) (g.K.Sink.held l.output) l.reader;
  reads_grow : g.S.Source.fault_count l.initial.input ≤ g.S.Source.fault_count l.input;
  writes_grow : g.K.Sink.fault_count l.initial.output ≤ g.K.Sink.fault_count l.output;
  no_read_fault : g.S.Source.fault_count l.input ≡ g.S.Source.fault_count l.initial.input;
  no_write_fault : g.K.Sink.fault_count l.output ≡ g.K.Sink.fault_count l.initial.output;
}

abbrev pub decreases-lines : goal.decreases-lines
decreases-lines g l = bytes_ahead l.reader
