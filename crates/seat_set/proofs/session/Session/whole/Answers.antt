use Rattle.seat_set.proofs.SharedSteps.{no_place, held}
use Rattle.seat_set.proofs.WholePieces.{whole_is}
use Rattle.seat_set.proofs.session.Session.whole.Goals as goal

pub unreachable-requires : goal.unreachable-requires
unreachable-requires c =
    no_place c.args.self.now c.self.inside.shared c.self.inside.unread.items c.deref.result.now c.args.number
    c.self.view_is c.requires.live
    c.self.invariant.0 c.deref.ensures.value c.in_default.ensures

pub returns-in-Some-front : goal.returns-in-Some-front
returns-in-Some-front c =
    whole_is c.args.self.now c.self.inside.shared c.self.inside.unread.items c.args.number c.in-Some.place
    c.index.result.now c.args.piece.now c.in-Some-front.raw.body.now c.in-Some-front.raw.id
    c.in-Some-front.raw.opcode c.in-Some-front.used c.self.view_is
    (held c.self.inside.unread.items c.deref.result.now c.args.number c.in-Some.place c.index.result.now
    c.deref.ensures.value c.in-Some.ensures c.index.ensures) c.in-Some-front.ensures c.if-used-piece.true
