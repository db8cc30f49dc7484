use Rattle.std.proofs.Common.{refl}
use Rattle.seat_set.proofs.SharedSteps.{no_place, held, read_waits, read_live, read_is}
use Rattle.seat_set.proofs.session.Session.read.Goals as goal

pub unreachable-requires : goal.unreachable-requires
unreachable-requires c =
    no_place c.args.self.now c.self.inside.shared c.self.inside.unread.items c.deref.result.now c.args.number
    c.self.view_is c.requires.live
    c.self.invariant.0 c.deref.ensures.value c.in_default.ensures

pub invariant_of-self : goal.invariant_of-self
invariant_of-self c =
    let there =
    held c.self.inside.unread.items c.deref.result.now c.args.number c.in-Some.place c.index_mut.result.now
    c.deref.ensures.value c.in-Some.ensures c.index_mut.ensures.value in (
      read_waits c.self.inside.shared.journal c.self.inside.unread.items c.args.number c.in-Some.place
          c.index_mut.result.now c.read.new.self there c.read.ensures.number c.self.invariant.0,
      read_live c.self.inside.shared.journal c.self.inside.unread.items c.args.number c.in-Some.place
          c.index_mut.result.now c.read.new.self there c.read.ensures.number c.self.invariant.1,
    )

pub returns-clause-read : goal.returns-clause-read
returns-clause-read c =
    read_is c.args.self.now _ c.self.inside.shared c.self.inside.unread.items c.args.number c.in-Some.place
    c.index_mut.result.now c.read.new.self
    c.args.piece.now c.read.result c.self.view_is
    (held c.self.inside.unread.items c.deref.result.now c.args.number c.in-Some.place c.index_mut.result.now
    c.deref.ensures.value c.in-Some.ensures
    c.index_mut.ensures.value)
    c.read.ensures.number refl c.read.ensures.found
