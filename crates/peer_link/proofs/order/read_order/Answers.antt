use Rattle.std.proofs.Common.{refl, ap}
use Rattle.wio_core.specs.declared.line_reader.NextLine.TheVariants as came
use Rattle.peer_link.specs.Ordering.{CanGoOn}
use Rattle.peer_link.proofs.LinesLooked.{if-ok, line-came, line-goes-on, end-came, long-came, fault-came, limit-never}
use Rattle.peer_link.proofs.order.read_order.Goals as goal

pub returns-in-Line-clause-reads : goal.returns-in-Line-clause-reads
returns-in-Line-clause-reads g c =
    line-came (g.S.Source.given c.args.source.now) (g.S.Source.given c.next.new.source)
    (g.S.Source.left c.args.source.now)
    (g.S.Source.left c.next.new.source) c.args.reader.now c.next.follows.lender-at-none
    (came.Line c.in-Line.line) c.args.number
    c.in-Line.line.now c.order_of.result c.requires refl (λ k. k.1.tells)
    (rw c.in-Line.is at c.next.follows.holds-at-none)
    c.order_of.ensures.order c.order_of.ensures.none

pub returns-in-Line-clause-ahead : goal.returns-in-Line-clause-ahead
returns-in-Line-clause-ahead g c =
    if-ok c.order_of.result (CanGoOn c.next.follows.lender-at-none)
    (line-goes-on (g.S.Source.given c.args.source.now) (g.S.Source.given c.next.new.source)
    (g.S.Source.left c.args.source.now)
    (g.S.Source.left c.next.new.source) c.args.reader.now c.next.follows.lender-at-none
    (came.Line c.in-Line.line) c.args.number
    c.in-Line.line.now c.requires refl (λ k. k.1.tells) (rw c.in-Line.is at c.next.follows.holds-at-none))

pub returns-in-End-clause-reads : goal.returns-in-End-clause-reads
returns-in-End-clause-reads g c =
    end-came (g.S.Source.given c.args.source.now) (g.S.Source.given c.next.new.source)
    (g.S.Source.left c.args.source.now)
    (g.S.Source.left c.next.new.source) c.args.reader.now c.next.follows.lender-at-none c.args.number c.requires
    (λ why e. let same = rw e at c.next.ensures.reads_nothing in (ap g.S.Source.given same, ap g.S.Source.left same))
    (rw c.in-End.is at c.next.follows.holds-at-none)

pub returns-in-Long-clause-reads : goal.returns-in-Long-clause-reads
returns-in-Long-clause-reads g c =
    long-came (g.S.Source.given c.args.source.now) (g.S.Source.given c.next.new.source)
    (g.S.Source.left c.args.source.now)
    (g.S.Source.left c.next.new.source) c.args.reader.now c.next.follows.lender-at-none c.args.number c.requires
    (rw c.in-Long.is at c.next.follows.holds-at-none)

pub returns-in-ReadFault-clause-reads : goal.returns-in-ReadFault-clause-reads
returns-in-ReadFault-clause-reads g c =
    fault-came (g.S.Source.given c.args.source.now) (g.S.Source.given c.next.new.source)
    (g.S.Source.left c.args.source.now)
    (g.S.Source.left c.next.new.source) c.args.reader.now c.next.follows.lender-at-none c.args.number c.requires
    (rw c.in-ReadFault.is at c.next.follows.holds-at-none)

pub unreachable-requires : goal.unreachable-requires
unreachable-requires g c =
    limit-never (g.S.Source.given c.args.source.now) (g.S.Source.given c.next.new.source)
    (g.S.Source.left c.args.source.now)
    (g.S.Source.left c.next.new.source) c.args.reader.now c.next.follows.lender-at-none c.args.number c.requires
    (rw c.in-Limit.is at c.next.follows.holds-at-none)
