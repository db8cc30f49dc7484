use Rattle.std.proofs.Common.{Bool, true, false, ◌≡◌, Ok, subst, rules}
use Rattle.std.proofs.lemmas.Result.{err_from_is_err_and}
use Rattle.trial_typing.specs.declared.turn.Turn as turn
use Rattle.trial_typing.specs.FieldGoing.{IsFieldAt, FieldTurns}
use Rattle.trial_typing.proofs.FieldKept.{keeps_none, keeps_both, of_kept}
use Rattle.trial_typing.proofs.FieldDone.{rest_at}
use Rattle.trial_typing.proofs.field_turns.answer_all.Goals as goal

pub returns-then-not-goes_on-clause-keeps : goal.returns-then-not-goes_on-clause-keeps
returns-then-not-goes_on-clause-keeps g c = keeps_none c.args.hub.now.limits c.args.job.now

pub returns-then-not-goes_on-clause-rests : goal.returns-then-not-goes_on-clause-rests
returns-then-not-goes_on-clause-rests g c = λ own h.
    let e : c.args.goes_on ≡ false = search rules in
    subst (λ (b : Bool). IsFieldAt c.args.hub.now.limits c.args.job.now own b) e h

pub loop-init : goal.loop-init
loop-init g c = record {
  of = c.requires.of;
  keeps = keeps_none c.args.hub.now.limits c.args.job.now;
  goes = λ own h. h;
}

pub answer_field-requires : goal.answer_field-requires
answer_field-requires g c = record { of = c.loop.invariant.of }

pub returns-in_err-answer_field-clause-keeps : goal.returns-in_err-answer_field-clause-keeps
returns-in_err-answer_field-clause-keeps g c =
    keeps_both c.args.hub.now.limits c.args.job.now c.loop.job c.answer_field.new.job c.loop.invariant.keeps
    c.in_err-answer_field.ensures.keeps

pub returns-in_err-answer_field-clause-rests : goal.returns-in_err-answer_field-clause-rests
returns-in_err-answer_field-clause-rests g c = λ own h.
    let e : c.args.goes_on ≡ true = search rules in
    let p = err_from_is_err_and c.from_residual.result c.from_residual.ensures.1 in
    rw (p.1, p.2)
    (c.in_err-answer_field.ensures.turns own
    (c.loop.invariant.goes own (subst (λ (b : Bool). IsFieldAt c.args.hub.now.limits c.args.job.now own b) e h)))

pub loop-preserved-in-More : goal.loop-preserved-in-More
loop-preserved-in-More g c =
    let i = c.loop.invariant in
    let a = c.in_ok-answer_field.ensures in record {
      of = of_kept c.args.hub.now c.loop.job c.answer_field.new.job i.of a.keeps;
      keeps = keeps_both c.args.hub.now.limits c.args.job.now c.loop.job c.answer_field.new.job i.keeps a.keeps;
      goes = λ own h.
          subst (λ (t : turn.Turn). FieldTurns c.args.hub.now.limits c.answer_field.new.job own (Ok t)) c.in-More.is
          (a.turns own (i.goes own h));
    }

-- nothing was stored in a journal that is too short
pub loop-preserved : goal.loop-preserved
loop-preserved g c =
    let i = c.loop.invariant in
    let a = c.in_ok-answer_field.ensures in record {
      of = of_kept c.args.hub.now c.loop.job c.answer_field.new.job i.of a.keeps;
      keeps = keeps_both c.args.hub.now.limits c.args.job.now c.loop.job c.answer_field.new.job i.keeps a.keeps;
      goes = λ own h.
          rest_at c.args.hub.now.limits c.answer_field.new.job own true
          (subst (λ (t : turn.Turn). FieldTurns c.args.hub.now.limits c.answer_field.new.job own (Ok t)) c.in-Quiet.is
          (a.turns own (i.goes own h)));
    }

pub returns-then-seen-clause-keeps : goal.returns-then-seen-clause-keeps
returns-then-seen-clause-keeps g c =
    keeps_both c.args.hub.now.limits c.args.job.now c.loop.job c.answer_field.new.job c.loop.invariant.keeps
    c.in_ok-answer_field.ensures.keeps

pub returns-then-seen-clause-rests : goal.returns-then-seen-clause-rests
returns-then-seen-clause-rests g c = λ own h.
    let e : c.args.goes_on ≡ true = search rules in
    subst (λ (t : turn.Turn). FieldTurns c.args.hub.now.limits c.answer_field.new.job own (Ok t)) c.in-Quiet.is
    (c.in_ok-answer_field.ensures.turns own
    (c.loop.invariant.goes own (subst (λ (b : Bool). IsFieldAt c.args.hub.now.limits c.args.job.now own b) e h)))

pub returns-in-Ended-clause-keeps : goal.returns-in-Ended-clause-keeps
returns-in-Ended-clause-keeps g c =
    keeps_both c.args.hub.now.limits c.args.job.now c.loop.job c.answer_field.new.job c.loop.invariant.keeps
    c.in_ok-answer_field.ensures.keeps

pub returns-in-Ended-clause-rests : goal.returns-in-Ended-clause-rests
returns-in-Ended-clause-rests g c = λ own h.
    let e : c.args.goes_on ≡ true = search rules in
    subst (λ (t : turn.Turn). FieldTurns c.args.hub.now.limits c.answer_field.new.job own (Ok t)) c.in-Ended.is
    (c.in_ok-answer_field.ensures.turns own
    (c.loop.invariant.goes own (subst (λ (b : Bool). IsFieldAt c.args.hub.now.limits c.args.job.now own b) e h)))
