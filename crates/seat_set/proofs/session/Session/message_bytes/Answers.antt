use Rattle.std.proofs.Common.{refl, sym, subst, ◌∙◌}
use Rattle.std.proofs.lemmas.Result.{err_from_is_err_and}
use Rattle.seat_set.specs.declared.unread.Found.{Found}
use Rattle.seat_set.specs.Playing.{IsRead}
use Rattle.seat_set.proofs.BytesLoop.{read_short, message_stops, message_goes, none_of, message_last, bad_size_ends, step_more_watched}
use Rattle.seat_set.proofs.StepsStamped.{none_stamped, stamped_read, stamped_on}
use Rattle.seat_set.proofs.JournalGrows.{watched_none}
use Rattle.seat_set.proofs.session.Session.message_bytes.Goals as goal

pub loop-rest-init : goal.loop-rest-init
loop-rest-init g c = record {
  limits = refl;
  kept = refl;
  left = refl;
  stamped = none_stamped c.args.stamp c.args.self.now.play.journal c.args.self.now.stamps;
  watched = watched_none g.W.Watch.may_follow c.args.self.now.limits.store c.args.self.now.play.journal
      c.args.watch.now;
}

pub returns-in_err-step-clause-played : goal.returns-in_err-step-clause-played
returns-in_err-step-clause-played g c =
    let p = err_from_is_err_and c.from_residual.result c.from_residual.ensures.1 in
    rw (p.1, p.2)
    (read_short c.args.self.now c.loop-rest.self c.args.number c.args.piece.now c.loop-rest.rest.now
    c.read.new.self.play c.loop-rest.invariant.left
    c.read.ensures.journal)

pub returns-in_err-step-in-Message-clause-played : goal.returns-in_err-step-in-Message-clause-played
returns-in_err-step-in-Message-clause-played g c =
    let p = err_from_is_err_and c.from_residual-in_err-step-in-Message.result
    c.from_residual-in_err-step-in-Message.ensures.1 in
    rw (p.1, p.2)
    (message_stops c.args.self.now c.loop-rest.self c.read.new.self c.args.number c.args.piece.now c.loop-rest.rest.now
    c.in-Message.step c.in-Message.used
    c.in_err-step-in-Message.field-0.0 c.step.new.self.play c.loop-rest.invariant.limits c.read.ensures.limits
    c.loop-rest.invariant.left
    (sym c.lives.ensures.value ∙ c.loop-rest-test.true)
    (subst (λ (f : Found). IsRead c.loop-rest.self c.args.number c.loop-rest.rest.now f c.read.new.self) c.in-Message.is
    c.in_ok-step.ensures.read) c.read.ensures.journal c.in_err-step-in-Message.ensures.played)

pub returns-in_err-step-clause-stamped : goal.returns-in_err-step-clause-stamped
returns-in_err-step-clause-stamped g c =
    stamped_read c.args.stamp c.args.self.now c.loop-rest.self c.read.new.self c.read.ensures.journal
    c.read.ensures.stamps
    c.loop-rest.invariant.stamped

pub returns-in_err-step-in-Message-clause-stamped : goal.returns-in_err-step-in-Message-clause-stamped
returns-in_err-step-in-Message-clause-stamped g c =
    stamped_on c.args.stamp c.args.self.now c.loop-rest.self c.read.new.self c.step.new.self c.read.ensures.journal
    c.read.ensures.stamps
    c.loop-rest.invariant.stamped c.step.ensures.stamped

pub returns-in_err-step-in-Message-clause-watched : goal.returns-in_err-step-in-Message-clause-watched
returns-in_err-step-in-Message-clause-watched g c =
    step_more_watched g.W.Watch.may_follow c.args.self.now c.loop-rest.self c.read.new.self c.step.new.self.play.journal
    c.args.watch.now c.loop-rest.watch
    c.step.new.watch c.loop-rest.invariant.limits c.read.ensures.limits c.read.ensures.journal
    c.loop-rest.invariant.watched c.step.ensures.watched

pub returns-then-is_empty-clause-played : goal.returns-then-is_empty-clause-played
returns-then-is_empty-clause-played g c =
    let read = subst (λ (f : Found). IsRead c.loop-rest.self c.args.number c.loop-rest.rest.now f c.read.new.self)
    c.in-Message.is c.in_ok-step.ensures.read in
    let way =
    message_goes c.args.self.now c.loop-rest.self c.read.new.self c.step.new.self c.args.number c.args.piece.now
    c.loop-rest.rest.now c.split_at.result.1.now
    c.in-Message.step c.in-Message.used c.loop-rest.invariant.limits c.read.ensures.limits c.loop-rest.invariant.left
    (sym c.lives.ensures.value ∙ c.loop-rest-test.true) read c.read.ensures.journal c.split_at.ensures.back
    c.in_ok-step-in-Message.ensures.played in
    message_last c.args.self.now c.loop-rest.self c.read.new.self c.step.new.self c.args.number c.args.piece.now
    c.loop-rest.rest.now c.split_at.result.1.now c.in-Message.step c.in-Message.used way
    (none_of c.split_at.result.1.now (sym c.is_empty.ensures ∙ c.if-is_empty.true)) read
    c.in_ok-step-in-Message.ensures.played

pub returns-then-is_empty-clause-stamped : goal.returns-then-is_empty-clause-stamped
returns-then-is_empty-clause-stamped g c =
    stamped_on c.args.stamp c.args.self.now c.loop-rest.self c.read.new.self c.step.new.self c.read.ensures.journal
    c.read.ensures.stamps
    c.loop-rest.invariant.stamped c.step.ensures.stamped

pub returns-then-is_empty-clause-watched : goal.returns-then-is_empty-clause-watched
returns-then-is_empty-clause-watched g c =
    step_more_watched g.W.Watch.may_follow c.args.self.now c.loop-rest.self c.read.new.self
    c.step.new.self.play.journal c.args.watch.now
    c.loop-rest.watch c.step.new.watch c.loop-rest.invariant.limits c.read.ensures.limits c.read.ensures.journal
    c.loop-rest.invariant.watched
    c.step.ensures.watched

pub loop-rest-preserved : goal.loop-rest-preserved
loop-rest-preserved g c = record {
  limits = c.step.ensures.limits ∙ c.read.ensures.limits ∙ c.loop-rest.invariant.limits;
  kept = c.step.ensures.kept ∙ c.read.ensures.kept ∙ c.loop-rest.invariant.kept;
  left =
      message_goes c.args.self.now c.loop-rest.self c.read.new.self c.step.new.self c.args.number c.args.piece.now
      c.loop-rest.rest.now c.split_at.result.1.now
      c.in-Message.step c.in-Message.used c.loop-rest.invariant.limits c.read.ensures.limits c.loop-rest.invariant.left
      (sym c.lives.ensures.value ∙ c.loop-rest-test.true)
      (subst (λ (f : Found). IsRead c.loop-rest.self c.args.number c.loop-rest.rest.now f c.read.new.self)
      c.in-Message.is c.in_ok-step.ensures.read) c.read.ensures.journal c.split_at.ensures.back
      c.in_ok-step-in-Message.ensures.played;
  stamped =
      stamped_on c.args.stamp c.args.self.now c.loop-rest.self c.read.new.self c.step.new.self c.read.ensures.journal
      c.read.ensures.stamps
      c.loop-rest.invariant.stamped c.step.ensures.stamped;
  watched =
      step_more_watched g.W.Watch.may_follow c.args.self.now c.loop-rest.self c.read.new.self
      c.step.new.self.play.journal c.args.watch.now
      c.loop-rest.watch c.step.new.watch c.loop-rest.invariant.limits c.read.ensures.limits c.read.ensures.journal
      c.loop-rest.invariant.watched
      c.step.ensures.watched;
}

pub returns-in-BadSize-clause-played : goal.returns-in-BadSize-clause-played
returns-in-BadSize-clause-played g c =
    bad_size_ends c.args.self.now c.loop-rest.self c.read.new.self c.args.number c.args.piece.now c.loop-rest.rest.now
    c.in-BadSize.step
    c.step-in-BadSize.result c.step-in-BadSize.new.self.play c.loop-rest.invariant.limits c.read.ensures.limits
    c.loop-rest.invariant.left
    (sym c.lives.ensures.value ∙ c.loop-rest-test.true)
    (subst (λ (f : Found). IsRead c.loop-rest.self c.args.number c.loop-rest.rest.now f c.read.new.self) c.in-BadSize.is
    c.in_ok-step.ensures.read) c.read.ensures.journal c.step-in-BadSize.ensures.played

pub returns-in-BadSize-clause-stamped : goal.returns-in-BadSize-clause-stamped
returns-in-BadSize-clause-stamped g c =
    stamped_on c.args.stamp c.args.self.now c.loop-rest.self c.read.new.self c.step-in-BadSize.new.self
    c.read.ensures.journal
    c.read.ensures.stamps c.loop-rest.invariant.stamped c.step-in-BadSize.ensures.stamped

pub returns-in-BadSize-clause-watched : goal.returns-in-BadSize-clause-watched
returns-in-BadSize-clause-watched g c =
    step_more_watched g.W.Watch.may_follow c.args.self.now c.loop-rest.self c.read.new.self
    c.step-in-BadSize.new.self.play.journal c.args.watch.now
    c.loop-rest.watch c.step-in-BadSize.new.watch c.loop-rest.invariant.limits c.read.ensures.limits
    c.read.ensures.journal
    c.loop-rest.invariant.watched c.step-in-BadSize.ensures.watched
