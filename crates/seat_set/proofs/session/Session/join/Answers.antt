use Rattle.std.proofs.Common.{ap, refl, arith}
use Rattle.std.specs.Prelude.{is_ok}
use Rattle.std.proofs.lemmas.Result.{err_from_is_err_and}
use Rattle.wl_wire.specs.Streams.{Assembly, begun}
use Rattle.broker_model.specs.declared.journal.Entry.TheVariants as entries
use Rattle.seat_set.proofs.JournalGrows.{join_grows, watched_none}
use Rattle.seat_set.proofs.SharedSteps.{join_ok, join_waits, join_many, join_full, join_short, pushed, left_of, none_watched, step_watched}
use Rattle.seat_set.proofs.NobodyEnded.{left_live}
use Rattle.seat_set.proofs.StaysWaiting.{is_put}
use Rattle.seat_set.proofs.StepsStamped.{entry_given}
use Rattle.seat_set.proofs.session.Session.join.Goals as goal

pub returns-in_err-cutter-clause-played : goal.returns-in_err-cutter-clause-played
returns-in_err-cutter-clause-played g c =
    let p = err_from_is_err_and c.from_residual.result c.from_residual.ensures.1 in
    rw (p.1, p.2) (join_grows c.args.self.now.limits (entries.Join c.args.role) c.args.self.now.play)

pub returns-in_err-cutter-clause-watched : goal.returns-in_err-cutter-clause-watched
returns-in_err-cutter-clause-watched g c =
    watched_none g.W.Watch.may_follow c.args.self.now.limits.store c.args.self.now.play.journal c.args.watch.now

pub returns-in_err-reserve-clause-played : goal.returns-in_err-reserve-clause-played
returns-in_err-reserve-clause-played g c =
    let p = err_from_is_err_and c.from_residual-in_err-reserve.result c.from_residual-in_err-reserve.ensures.1 in
    rw (p.1, p.2) (join_short c.args.self.now c.self.inside.shared c.self.inside.shared c.self.inside.unread.items
    c.args.role c.self.view_is refl)

pub returns-in_err-reserve-clause-watched : goal.returns-in_err-reserve-clause-watched
returns-in_err-reserve-clause-watched g c =
    none_watched g.W.Watch.may_follow c.args.self.now c.self.inside.shared c.self.inside.unread.items c.args.watch.now
    c.self.view_is

pub invariant_of-self-in-Ok : goal.invariant_of-self-in-Ok
invariant_of-self-in-Ok g c =
    let room = c.in_ok-reserve.ensures.ok in
    let put = is_put c.push.result _ _ c.push.ensures.full (omega arith) in
    let made = pushed c.self.inside.unread.items c.reserve.new.self.items c.push.new.self.items _ (is_ok c.push.result)
    c.in_ok-reserve.ensures.items put c.push.ensures.items in (
      join_waits c.args.stamp c.args.self.now c.self.inside.shared c.join_watched.new.self c.self.inside.unread.items
          c.keep_live.new.unread.items _ c.args.role
          c.in-Ok.ensures.ok c.in-Ok.ensures.number (left_of c.join_watched.new.self _ c.push.new.self.items
          c.keep_live.new.unread.items c.keep_live.ensures made)
          c.self.invariant.0,
      left_live c.join_watched.new.self.journal c.push.new.self.items c.keep_live.new.unread.items c.keep_live.ensures,
    )

pub returns-in-Ok-clause-played : goal.returns-in-Ok-clause-played
returns-in-Ok-clause-played g c =
    let room = c.in_ok-reserve.ensures.ok in
    let put = is_put c.push.result _ _ c.push.ensures.full (omega arith) in
    let made = pushed c.self.inside.unread.items c.reserve.new.self.items c.push.new.self.items _ (is_ok c.push.result)
    c.in_ok-reserve.ensures.items put c.push.ensures.items in
    join_ok c.args.stamp c.args.self.now c.self.inside.shared c.join_watched.new.self c.self.inside.unread.items
    c.keep_live.new.unread.items _ c.args.role c.in-Ok.number
    c.self.view_is c.in-Ok.ensures.refused c.in-Ok.ensures.ok c.in-Ok.ensures.number
    (ap (λ (a : Assembly). record { number = c.in-Ok.number; bytes = begun a }) c.in_ok-cutter.ensures.empty)
    (left_of c.join_watched.new.self _ c.push.new.self.items c.keep_live.new.unread.items c.keep_live.ensures
    made)

pub returns-in-Ok-clause-watched : goal.returns-in-Ok-clause-watched
returns-in-Ok-clause-watched g c =
    step_watched c.args.stamp g.W.Watch.may_follow c.args.self.now c.self.inside.shared c.join_watched.new.self
    c.self.inside.unread.items (entries.Join c.args.role)
    c.args.watch.now c.join_watched.new.watch c.self.view_is c.in-Ok.ensures.ok c.in-Ok.ensures.watched

pub returns-in-Err-TooManyPeers-clause-played : goal.returns-in-Err-TooManyPeers-clause-played
returns-in-Err-TooManyPeers-clause-played g c =
    join_many c.args.self.now c.self.inside.shared c.join_watched.new.self c.self.inside.unread.items
    c.reserve.new.self.items c.args.role _
    c.in-Err-TooManyPeers.field-0 _ c.self.view_is refl c.in-Err-TooManyPeers.field-0-is
    c.in-Err-TooManyPeers.ensures.refused
    c.in-Err-TooManyPeers.ensures.accepted c.in-Err-TooManyPeers.ensures.err c.in_ok-reserve.ensures.items

pub returns-in-Err-JournalFull-clause-played : goal.returns-in-Err-JournalFull-clause-played
returns-in-Err-JournalFull-clause-played g c =
    join_full c.args.self.now c.self.inside.shared c.join_watched.new.self c.self.inside.unread.items
    c.reserve.new.self.items c.args.role _
    c.in-Err-JournalFull.field-0 c.in-Err-JournalFull.kept c.self.view_is refl c.in-Err-JournalFull.field-0-is
    c.in-Err-JournalFull.ensures.refused
    c.in-Err-JournalFull.ensures.accepted c.in-Err-JournalFull.ensures.err c.in_ok-reserve.ensures.items

pub returns-clause-played : goal.returns-clause-played
returns-clause-played g c =
    join_short c.args.self.now c.self.inside.shared c.join_watched.new.self c.self.inside.unread.items c.args.role
    c.self.view_is
    c.in-Err-NoMemory.ensures.err

pub returns-in-Ok-clause-stamped : goal.returns-in-Ok-clause-stamped
returns-in-Ok-clause-stamped g c =
    entry_given c.args.self.now c.self.inside.shared c.join_watched.new.self c.self.inside.unread.items
    (entries.Join c.args.role) c.args.stamp c.self.view_is (record { step = refl; own = refl }) c.in-Ok.ensures.ok
