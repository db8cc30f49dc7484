use Rattle.std.proofs.Common.{rules, refl}
use Rattle.wl_wire.specs.Streams.{begun}
use Rattle.desc_frame.specs.declared.Got.TheVariants as got
use Rattle.peer_link.specs.declared.ends.ReadEnd.TheVariants as ends
use Rattle.peer_link.proofs.FramesRead.{took-gave, frame-of, frame-comes, no-frame}
use Rattle.peer_link.proofs.reader.read_frame.Goals as goal

pub returns-in-End-clause-reads : goal.returns-in-End-clause-reads
returns-in-End-clause-reads g c =
    let k = rw c.in-End.is at c.next.ensures.took c.new-reader.ensures in (
      k.0,
      took-gave (g.S.Source.given c.args.source.now) (g.S.Source.given c.next.new.source)
          (g.S.Source.left c.args.source.now)
          (g.S.Source.left c.next.new.source) k.0 k.1,
      no-frame c.args.hub.now.limits c.args.pass.now (begun c.args.cutter.now) (begun c.args.cutter.now) k.0
          (g.S.Source.left c.next.new.source) ends.Closed got.End refl k.2,
    )

pub returns-in-Torn-clause-reads : goal.returns-in-Torn-clause-reads
returns-in-Torn-clause-reads g c =
    let k = rw c.in-Torn.is at c.next.ensures.took c.new-reader.ensures in (
      k.0,
      took-gave (g.S.Source.given c.args.source.now) (g.S.Source.given c.next.new.source)
          (g.S.Source.left c.args.source.now)
          (g.S.Source.left c.next.new.source) k.0 k.1,
      no-frame c.args.hub.now.limits c.args.pass.now (begun c.args.cutter.now) (begun c.args.cutter.now) k.0
          (g.S.Source.left c.next.new.source) (ends.Torn c.in-Torn.n) (got.Torn c.in-Torn.n) refl k.2,
    )

pub returns-in-BadFrame-clause-reads : goal.returns-in-BadFrame-clause-reads
returns-in-BadFrame-clause-reads g c =
    let k = rw c.in-BadFrame.is at c.next.ensures.took c.new-reader.ensures in (
      k.0,
      took-gave (g.S.Source.given c.args.source.now) (g.S.Source.given c.next.new.source)
          (g.S.Source.left c.args.source.now)
          (g.S.Source.left c.next.new.source) k.0 k.1,
      no-frame c.args.hub.now.limits c.args.pass.now (begun c.args.cutter.now) (begun c.args.cutter.now) k.0
          (g.S.Source.left c.next.new.source) (ends.BadFrame c.in-BadFrame.n c.in-BadFrame.t)
          (got.BadFrame c.in-BadFrame.n c.in-BadFrame.t) refl k.2,
    )

pub returns-in-ReadFault-clause-reads : goal.returns-in-ReadFault-clause-reads
returns-in-ReadFault-clause-reads g c =
    let k = rw c.in-ReadFault.is at c.next.ensures.took c.new-reader.ensures in (
      k.0,
      took-gave (g.S.Source.given c.args.source.now) (g.S.Source.given c.next.new.source)
          (g.S.Source.left c.args.source.now)
          (g.S.Source.left c.next.new.source) k.0 k.1,
      no-frame c.args.hub.now.limits c.args.pass.now (begun c.args.cutter.now) (begun c.args.cutter.now) k.0
          (g.S.Source.left c.next.new.source) ends.ReadFault got.ReadFault refl k.2,
    )

pub returns-in-Bytes-clause-reads : goal.returns-in-Bytes-clause-reads
returns-in-Bytes-clause-reads g c =
    let k = rw c.in-Bytes.is at c.next.ensures.took c.new-reader.ensures in (
      k.0,
      took-gave (g.S.Source.given c.args.source.now) (g.S.Source.given c.next.new.source)
          (g.S.Source.left c.args.source.now)
          (g.S.Source.left c.next.new.source) k.0 k.1,
      frame-comes c.args.hub.now.limits c.args.pass.now c.play_frame.new.pass (begun c.args.cutter.now)
          (begun c.play_frame.new.cutter) k.0 (g.S.Source.left c.next.new.source) _ c.play_frame.result
          (frame-of c.in-Bytes.n c.in-Bytes.t c.next.new.bytes c.next.new.tokens k.0 _ _ k.2 (search rules)
          (search rules))
          c.play_frame.ensures.makes,
    )
