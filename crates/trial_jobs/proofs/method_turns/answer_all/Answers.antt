use Rattle.std.proofs.Common.{Bool, true, false, ◌≡◌, Ok, subst, rules}
use Rattle.std.proofs.lemmas.Result.{err_from_is_err_and}
use Rattle.trial_typing.specs.declared.turn.Turn as turn
use Rattle.trial_jobs.specs.MethodGoing.{IsMethodAt, MethodTurns}
use Rattle.trial_jobs.proofs.MethodKept.{keeps_none, keeps_both, of_kept}
use Rattle.trial_jobs.proofs.MethodGoesOn.{busy}
use Rattle.trial_jobs.proofs.method_turns.answer_all.Goals as goal

pub returns-then-not-goes_on-clause-keeps : goal.returns-then-not-goes_on-clause-keeps
returns-then-not-goes_on-clause-keeps g c = keeps_none c.args.hub.now.limits c.args.job.now

pub returns-then-not-goes_on-clause-goes : goal.returns-then-not-goes_on-clause-goes
returns-then-not-goes_on-clause-goes g c = λ typist own h.
    let e : c.args.goes_on ≡ false = search rules in
    subst (λ (b : Bool). IsMethodAt c.args.hub.now.limits typist c.args.job.now own false b) e h

pub loop-init : goal.loop-init
loop-init g c = record {
  of = c.requires.of;
  keeps = keeps_none c.args.hub.now.limits c.args.job.now;
  goes = λ typist own h. h;
}

pub answer_method-requires : goal.answer_method-requires
answer_method-requires g c = record { of = c.loop.invariant.of }

pub returns-in_err-answer_method-clause-keeps : goal.returns-in_err-answer_method-clause-keeps
returns-in_err-answer_method-clause-keeps g c =
    keeps_both c.args.hub.now.limits c.args.job.now c.loop.job c.answer_method.new.job c.loop.invariant.keeps
    c.in_err-answer_method.ensures.keeps

pub returns-in_err-answer_method-clause-goes : goal.returns-in_err-answer_method-clause-goes
returns-in_err-answer_method-clause-goes g c = λ typist own h.
    let e : c.args.goes_on ≡ true = search rules in
    let p = err_from_is_err_and c.from_residual.result c.from_residual.ensures.1 in
    rw (p.1, p.2) (c.in_err-answer_method.ensures.turns typist own (c.loop.invariant.goes typist own
    (subst (λ (b : Bool). IsMethodAt c.args.hub.now.limits typist c.args.job.now own false b) e h)))

pub loop-preserved : goal.loop-preserved
loop-preserved g c =
    let i = c.loop.invariant in
    let a = c.in_ok-answer_method.ensures in record {
      of = of_kept c.args.hub.now c.loop.job c.answer_method.new.job i.of a.keeps;
      keeps = keeps_both c.args.hub.now.limits c.args.job.now c.loop.job c.answer_method.new.job i.keeps a.keeps;
      goes = λ typist own h.
          busy c.args.hub.now.limits typist c.answer_method.new.job own
          (subst (λ (t : turn.Turn). MethodTurns c.args.hub.now.limits typist c.answer_method.new.job own (Ok t))
          c.in-Quiet.is (a.turns typist own (i.goes typist own h)));
    }

pub loop-preserved-in-More : goal.loop-preserved-in-More
loop-preserved-in-More g c =
    let i = c.loop.invariant in
    let a = c.in_ok-answer_method.ensures in record {
      of = of_kept c.args.hub.now c.loop.job c.answer_method.new.job i.of a.keeps;
      keeps = keeps_both c.args.hub.now.limits c.args.job.now c.loop.job c.answer_method.new.job i.keeps a.keeps;
      goes = λ typist own h.
          subst (λ (t : turn.Turn). MethodTurns c.args.hub.now.limits typist c.answer_method.new.job own (Ok t))
          c.in-More.is (a.turns typist own (i.goes typist own h));
    }

pub returns-then-seen-least-clause-keeps : goal.returns-then-seen-least-clause-keeps
returns-then-seen-least-clause-keeps g c =
    keeps_both c.args.hub.now.limits c.args.job.now c.loop.job c.answer_method.new.job c.loop.invariant.keeps
    c.in_ok-answer_method.ensures.keeps

pub returns-then-seen-least-clause-goes : goal.returns-then-seen-least-clause-goes
returns-then-seen-least-clause-goes g c = λ typist own h.
    let e : c.args.goes_on ≡ true = search rules in
    subst (λ (t : turn.Turn). MethodTurns c.args.hub.now.limits typist c.answer_method.new.job own (Ok t)) c.in-Quiet.is
    (c.in_ok-answer_method.ensures.turns typist own (c.loop.invariant.goes typist own
    (subst (λ (b : Bool). IsMethodAt c.args.hub.now.limits typist c.args.job.now own false b) e h)))

pub returns-in-Ended-clause-keeps : goal.returns-in-Ended-clause-keeps
returns-in-Ended-clause-keeps g c =
    keeps_both c.args.hub.now.limits c.args.job.now c.loop.job c.answer_method.new.job c.loop.invariant.keeps
    c.in_ok-answer_method.ensures.keeps

pub returns-in-Ended-clause-goes : goal.returns-in-Ended-clause-goes
returns-in-Ended-clause-goes g c = λ typist own h.
    let e : c.args.goes_on ≡ true = search rules in
    subst (λ (t : turn.Turn). MethodTurns c.args.hub.now.limits typist c.answer_method.new.job own (Ok t)) c.in-Ended.is
    (c.in_ok-answer_method.ensures.turns typist own (c.loop.invariant.goes typist own
    (subst (λ (b : Bool). IsMethodAt c.args.hub.now.limits typist c.args.job.now own false b) e h)))
