use Rattle.seat_set.proofs.SharedSteps.{take_waits, take_ok, take_short, step_watched}
use Rattle.seat_set.proofs.NobodyEnded.{took_live, left_live}
use Rattle.broker_model.specs.declared.journal.Entry.TheVariants as entries
use Rattle.std.proofs.Common.{refl}
use Rattle.seat_set.proofs.StepsStamped.{entry_given}
use Rattle.seat_set.proofs.session.Session.take_into.Goals as goal

pub invariant_of-self : goal.invariant_of-self
invariant_of-self g c = (
  take_waits c.args.stamp c.self.inside.shared c.take_watched.new.self c.self.inside.unread.items
      c.forget_ended.new.unread.items
      c.args.number
      c.in-Bytes.field-0
      c.in-Bytes.ensures.settled c.forget_ended.ensures c.self.invariant.0,
  left_live c.take_watched.new.self.journal c.self.inside.unread.items c.forget_ended.new.unread.items
      c.forget_ended.ensures,
)

pub forget_ended-requires : goal.forget_ended-requires
forget_ended-requires g c =
    took_live c.args.stamp c.self.inside.shared c.take_watched.new.self c.self.inside.unread.items c.args.number
    c.in-Bytes.field-0
    c.in-Bytes.ensures.settled c.self.invariant.1

pub returns-in-Bytes-clause-played : goal.returns-in-Bytes-clause-played
returns-in-Bytes-clause-played g c =
    take_ok c.args.stamp c.args.self.now c.self.inside.shared c.take_watched.new.self c.self.inside.unread.items
    c.forget_ended.new.unread.items c.args.number c.args.most
    c.in-Bytes.field-0 c.in-Bytes.field-1 _ _ c.take_watched.new.buf c.take_watched.new.tokens c.self.view_is
    c.requires.most c.requires.enough c.in-Bytes.ensures.refused
    c.in-Bytes.ensures.bytes c.in-Bytes.ensures.settled c.forget_ended.ensures

pub returns-in-Bytes-clause-watched : goal.returns-in-Bytes-clause-watched
returns-in-Bytes-clause-watched g c =
    step_watched c.args.stamp g.W.Watch.may_follow c.args.self.now c.self.inside.shared c.take_watched.new.self
    c.self.inside.unread.items
    (entries.Took c.args.number c.in-Bytes.field-0) c.args.watch.now c.take_watched.new.watch c.self.view_is
    c.in-Bytes.ensures.settled
    c.in-Bytes.ensures.watched

pub returns-in-NoMemory-clause-played : goal.returns-in-NoMemory-clause-played
returns-in-NoMemory-clause-played g c =
    take_short c.args.self.now c.self.inside.shared c.take_watched.new.self c.self.inside.unread.items c.args.number
    c.args.most c.self.view_is
    c.in-NoMemory.ensures.same

pub returns-in-Bytes-clause-stamped : goal.returns-in-Bytes-clause-stamped
returns-in-Bytes-clause-stamped g c =
    entry_given c.args.self.now c.self.inside.shared c.take_watched.new.self c.self.inside.unread.items
    (entries.Took c.args.number c.in-Bytes.field-0) c.args.stamp c.self.view_is (record { step = refl; own = refl })
    c.in-Bytes.ensures.settled
