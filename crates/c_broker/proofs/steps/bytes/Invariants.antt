use Rattle.std.proofs.Common.{◌++◌, length}
use Rattle.wl_wire.specs.Streams.{begun}
use Rattle.c_broker.specs.Steps.{Hearing}
use Rattle.c_broker.proofs.BytesOnWay.{OnWay}
use Rattle.c_broker.proofs.steps.bytes.Given as goal

-- what is left of the piece gives the rest of its steps
abbrev pub invariant-messages : goal.invariant-messages
invariant-messages l = record {
  way : OnWay l.peer l.stamp (begun l.initial.cutter ++ l.piece) (begun l.cutter ++ l.rest) l.initial.shared l.shared;
  hears : Hearing l.initial.shared l.initial.ears l.shared l.ears;
}

-- each message leaves fewer bytes
abbrev pub decreases-messages : goal.decreases-messages
decreases-messages l = length l.rest
