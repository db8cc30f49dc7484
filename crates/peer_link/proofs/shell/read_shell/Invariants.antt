use Rattle.std.proofs.Common.{◌≡◌, ◌≤◌, ◌<◌, ◌^◌, ℕ, List}
use Rattle.wio_core.specs.Io.{StaysQuiet}
use Rattle.wio_core.specs.Lines.{TookFrom}
use Rattle.hub_lock.specs.Seats.{having_seen}
use Rattle.hub_lock.specs.Passes.{steps_of}
use Rattle.peer_link.specs.Made.{SawMore}
use Rattle.peer_link.specs.Ordering.{CanGoOn, Serving}
use Rattle.peer_link.proofs.shell.read_shell.Given as goal

-- the lines so far were ordered and answered
abbrev pub invariant-loop : goal.invariant-loop
invariant-loop g l = record {
  pass : l.pass ≡ having_seen l.initial.pass l.pass.seen;
  saw : SawMore l.hub.limits l.initial.pass.seen l.pass.seen;
  serves : (read : List ℕ)
      × TookFrom (g.S.Source.given l.initial.source) (g.S.Source.given l.source) (g.S.Source.left l.initial.source)
      (g.S.Source.left l.source) read
      × Serving l.hub.limits l.pass l.reader read (g.S.Source.left l.source) (g.K.Sink.held l.initial.sink)
      (g.K.Sink.held l.sink);
  ahead : CanGoOn l.reader;
  few : steps_of l.pass < 2 ^ 32;
  given_quiet : StaysQuiet (g.S.Source.given l.initial.source) (g.S.Source.given l.source);
  left_quiet : StaysQuiet (g.S.Source.left l.initial.source) (g.S.Source.left l.source);
  held_quiet : StaysQuiet (g.K.Sink.held l.initial.sink) (g.K.Sink.held l.sink);
  reads : g.S.Source.fault_count l.initial.source ≤ g.S.Source.fault_count l.source;
  writes : g.K.Sink.fault_count l.initial.sink ≤ g.K.Sink.fault_count l.sink;
  no_read_fault : g.S.Source.fault_count l.source ≡ g.S.Source.fault_count l.initial.source;
  no_write_fault : g.K.Sink.fault_count l.sink ≡ g.K.Sink.fault_count l.initial.sink;
}
