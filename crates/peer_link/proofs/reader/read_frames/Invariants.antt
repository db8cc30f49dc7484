use Rattle.std.proofs.Common.{◌≡◌, ◌≤◌, ℕ, List, None}
use Rattle.wio_core.specs.Io.{StaysQuiet}
use Rattle.wio_core.specs.Lines.{TookFrom}
use Rattle.wl_wire.specs.Messages.{bad_size_at}
use Rattle.wl_wire.specs.Streams.{begun}
use Rattle.hub_lock.specs.Calls.{pass_having_seen}
use Rattle.peer_link.specs.Made.{SawMore}
use Rattle.peer_link.proofs.FramesRead.{Reading}
use Rattle.peer_link.proofs.reader.read_frames.Given as goal

-- the frames so far were read, and all their steps made
abbrev pub invariant-loop : goal.invariant-loop
invariant-loop g l = record {
  pass : l.pass ≡ pass_having_seen l.initial.pass l.pass.seat.seen;
  saw : SawMore l.hub.limits l.initial.pass.seat.seen l.pass.seat.seen;
  reads : (read : List ℕ)
      × TookFrom (g.S.Source.given l.initial.source) (g.S.Source.given l.source) (g.S.Source.left l.initial.source)
      (g.S.Source.left l.source) read
      × Reading l.initial.pass.peer l.pass read (begun l.cutter);
  good : bad_size_at (begun l.cutter) ≡ None;
  given_quiet : StaysQuiet (g.S.Source.given l.initial.source) (g.S.Source.given l.source);
  left_quiet : StaysQuiet (g.S.Source.left l.initial.source) (g.S.Source.left l.source);
  faults : g.S.Source.fault_count l.initial.source ≤ g.S.Source.fault_count l.source;
  no_fault : g.S.Source.fault_count l.source ≡ g.S.Source.fault_count l.initial.source;
}
