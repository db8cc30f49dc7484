use Rattle.std.proofs.Common.{◌≡◌, length, ◌-◌, ◌≤◌, take}
use Rattle.std.specs.Io.KnownBytes.{Appends}
use Rattle.wio_core.specs.Io.{StaysQuiet}
use Rattle.wio_core.proofs.write_all.Given as goal

-- the front of the piece is written
abbrev pub invariant-loop-at : goal.invariant-loop-at
invariant-loop-at g l = record {
  within : l.at ≤ length l.piece;
  gained : Appends (g.K.Sink.held l.initial.sink) (g.K.Sink.held l.sink) (take l.at l.piece);
  quiet : StaysQuiet (g.K.Sink.held l.initial.sink) (g.K.Sink.held l.sink);
  never_falls : g.K.Sink.fault_count l.initial.sink ≤ g.K.Sink.fault_count l.sink;
  no_fault : g.K.Sink.fault_count l.sink ≡ g.K.Sink.fault_count l.initial.sink;
}

abbrev pub decreases-loop-at : goal.decreases-loop-at
decreases-loop-at g l = length l.piece - l.at
