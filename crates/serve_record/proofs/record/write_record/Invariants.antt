use Rattle.std.proofs.Common.{◌≡◌, ◌≤◌, ◌-◌, length}
use Rattle.serve_record.specs.Lines.{Holds, text_without}
use Rattle.serve_record.proofs.record.write_record.Given as goal

abbrev pub invariant-loop-before : goal.invariant-loop-before
invariant-loop-before g l = record {
  holds : Holds (g.K.Sink.held l.initial.output) (g.K.Sink.held l.output) l.text
      (text_without l.session.limits
      (length l.session.journal.entries - l.before) l.session.journal.entries l.session.stamps.stamps);
  never_falls : g.K.Sink.fault_count l.initial.output ≤ g.K.Sink.fault_count l.output;
  none_failed : g.K.Sink.fault_count l.output ≡ g.K.Sink.fault_count l.initial.output;
}
