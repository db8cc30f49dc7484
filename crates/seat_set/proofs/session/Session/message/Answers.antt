use Rattle.seat_set.proofs.SharedSteps.{step_ok, step_waits, step_watched, step_short}
use Rattle.seat_set.proofs.NobodyEnded.{said_live, left_live}
use Rattle.broker_steps.specs.declared.step.Step.TheVariants as steps
use Rattle.broker_steps.specs.declared.step.PeerStep.TheVariants as peers
use Rattle.broker_model.specs.declared.journal.Entry.TheVariants as entries
use Rattle.seat_set.proofs.StepsStamped.{said_given, none_given}
use Rattle.seat_set.proofs.session.Session.message.Goals as goal

pub invariant_of-self : goal.invariant_of-self
invariant_of-self g c = (
  step_waits c.args.stamp c.args.self.now c.self.inside.shared c.message_watched.new.self c.self.inside.unread.items
      c.forget_ended.new.unread.items (steps.Peer c.args.number (peers.Message c.args.id c.args.opcode c.args.body.now))
      c.self.view_is tt
      (c.requires.alive, c.requires.live) c.in-Ok.ensures.ok c.forget_ended.ensures c.self.invariant.0,
  left_live c.message_watched.new.self.journal c.self.inside.unread.items c.forget_ended.new.unread.items
      c.forget_ended.ensures,
)

pub forget_ended-requires : goal.forget_ended-requires
forget_ended-requires g c =
    said_live c.args.stamp c.self.inside.shared c.message_watched.new.self c.self.inside.unread.items
    (steps.Peer c.args.number (peers.Message c.args.id c.args.opcode c.args.body.now)) tt
    c.in-Ok.ensures.ok c.self.invariant.1

pub returns-in-Ok-clause-played : goal.returns-in-Ok-clause-played
returns-in-Ok-clause-played g c =
    step_ok c.args.stamp c.args.self.now c.self.inside.shared c.message_watched.new.self c.self.inside.unread.items
    c.forget_ended.new.unread.items (steps.Peer c.args.number (peers.Message c.args.id c.args.opcode c.args.body.now))
    tt c.self.view_is tt (c.requires.alive, c.requires.live) c.in-Ok.ensures.refused c.in-Ok.ensures.ok
    c.forget_ended.ensures

pub returns-in-Ok-clause-watched : goal.returns-in-Ok-clause-watched
returns-in-Ok-clause-watched g c =
    step_watched c.args.stamp g.W.Watch.may_follow c.args.self.now c.self.inside.shared c.message_watched.new.self
    c.self.inside.unread.items (entries.Message c.args.number c.args.id c.args.opcode c.args.body.now)
    c.args.watch.now c.message_watched.new.watch c.self.view_is c.in-Ok.ensures.ok c.in-Ok.ensures.watched

pub returns-in-Err-NoMemory-clause-played : goal.returns-in-Err-NoMemory-clause-played
returns-in-Err-NoMemory-clause-played g c =
    step_short c.args.self.now c.self.inside.shared c.message_watched.new.self c.self.inside.unread.items
    (entries.Message c.args.number c.args.id c.args.opcode c.args.body.now) c.self.view_is
    c.in-Err-NoMemory.ensures.err

pub returns-in-Ok-clause-stamped : goal.returns-in-Ok-clause-stamped
returns-in-Ok-clause-stamped g c =
    said_given c.args.self.now c.self.inside.shared c.message_watched.new.self c.self.inside.unread.items
    (steps.Peer c.args.number (peers.Message c.args.id c.args.opcode c.args.body.now))
    c.args.stamp c.self.view_is tt c.in-Ok.ensures.ok

pub returns-in-Err-JournalFull-clause-stamped : goal.returns-in-Err-JournalFull-clause-stamped
returns-in-Err-JournalFull-clause-stamped g c =
    none_given c.args.self.now c.self.inside.shared c.message_watched.new.self c.self.inside.unread.items c.args.stamp
    c.self.view_is c.in-Err-JournalFull.ensures.err

pub returns-in-Err-NoMemory-clause-stamped : goal.returns-in-Err-NoMemory-clause-stamped
returns-in-Err-NoMemory-clause-stamped g c =
    none_given c.args.self.now c.self.inside.shared c.message_watched.new.self c.self.inside.unread.items c.args.stamp
    c.self.view_is c.in-Err-NoMemory.ensures.err
