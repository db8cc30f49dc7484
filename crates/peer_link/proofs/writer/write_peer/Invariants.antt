use Rattle.std.proofs.Common.{◌≡◌, ◌≤◌}
use Rattle.wio_core.specs.Io.{StaysQuiet}
use Rattle.hub_lock.specs.Calls.{pass_having_seen}
use Rattle.peer_link.specs.Made.{SawMore}
use Rattle.peer_link.specs.Written.{Writing}
use Rattle.peer_link.proofs.writer.write_peer.Given as goal

-- what was taken so far was written
abbrev pub invariant-loop : goal.invariant-loop
invariant-loop g l = record {
  pass : l.pass ≡ pass_having_seen l.initial.pass l.pass.seat.seen;
  saw : SawMore l.hub.limits l.initial.pass.seat.seen l.pass.seat.seen;
  writes : Writing l.hub.limits l.pass (g.K.Sink.held l.initial.sink) (g.K.Sink.held l.sink);
  quiet : StaysQuiet (g.K.Sink.held l.initial.sink) (g.K.Sink.held l.sink);
  faults : g.K.Sink.fault_count l.initial.sink ≤ g.K.Sink.fault_count l.sink;
  no_fault : g.K.Sink.fault_count l.sink ≡ g.K.Sink.fault_count l.initial.sink;
}
