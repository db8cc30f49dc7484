use Rattle.std.proofs.Common.{◌≡◌, true, false, sym, ap, subst, ◌∙◌}
use Rattle.std.proofs.lemmas.Result.{err_from_is_err_and}
use Rattle.trial_run.specs.Ran.{Ran}
use Rattle.trial_run.specs.Steps.{has_stored}
use Rattle.trial_run.specs.Play.{TrialPlay, number_of}
use Rattle.trial_run.specs.Rounds.{takes}
use Rattle.trial_run.specs.Working.{IsHalt}
use Rattle.trial_run.proofs.LoopsRun.{takes_none, takes_go, takes_stop, takes_end}
use Rattle.trial_run.proofs.PhasesRun.{stays_on}
use Rattle.trial_run.proofs.trial.Trial.takes.Goals as goal

pub returns-then-not-has_stored-clause-run : goal.returns-then-not-has_stored-clause-run
returns-then-not-has_stored-clause-run c =
    let seen = c.self-in-loop-taken.inside.shared in
    let none : has_stored (number_of c.args.who) c.loop-taken.self.broker ≡ false =
    sym (c.if-not-has_stored.ensures ∙ ap (λ n. has_stored n seen) c.number_of.ensures
    ∙ ap (λ (t : TrialPlay). has_stored (number_of c.args.who) t.broker) c.self-in-loop-taken.view_is) in
    ap (λ n. takes n c.args.who c.args.self.now) (sym c.loop-taken.invariant.most) ∙ sym c.loop-taken.invariant.left
    ∙ takes_none _ c.args.who c.loop-taken.self none

pub returns-in_err-one_take-clause-run : goal.returns-in_err-one_take-clause-run
returns-in_err-one_take-clause-run c =
    let p = err_from_is_err_and c.from_residual.result c.from_residual.ensures.1 in
    let seen = c.self-in-loop-taken.inside.shared in
    let some : has_stored (number_of c.args.who) c.loop-taken.self.broker ≡ true =
    sym (c.if-not-has_stored.ensures ∙ ap (λ n. has_stored n seen) c.number_of.ensures
    ∙ ap (λ (t : TrialPlay). has_stored (number_of c.args.who) t.broker) c.self-in-loop-taken.view_is) in
    rw (p.1, p.2)
    (subst (λ (r : Ran TrialPlay). IsHalt r c.in_err-one_take.field-0.0 c.one_take.new.self)
    (c.loop-taken.invariant.left ∙ ap (λ n. takes n c.args.who c.args.self.now) c.loop-taken.invariant.most)
    (takes_stop c.self.inside.most c.loop-taken.taken c.args.who c.loop-taken.self _ _ c.loop-taken-test.true some
    c.in_err-one_take.ensures.run))

pub loop-taken-preserved : goal.loop-taken-preserved
loop-taken-preserved c =
    let seen = c.self-in-loop-taken.inside.shared in
    let some : has_stored (number_of c.args.who) c.loop-taken.self.broker ≡ true =
    sym (c.if-not-has_stored.ensures ∙ ap (λ n. has_stored n seen) c.number_of.ensures
    ∙ ap (λ (t : TrialPlay). has_stored (number_of c.args.who) t.broker) c.self-in-loop-taken.view_is) in
    record {
      left =
          sym (takes_go c.self.inside.most c.loop-taken.taken c.args.who c.loop-taken.self c.one_take.new.self
          c.loop-taken-test.true some c.in_ok-one_take.ensures.run)
          ∙ c.loop-taken.invariant.left;
      most = c.loop-taken.invariant.most;
      stays = stays_on _ _ _ c.loop-taken.invariant.stays c.one_take.ensures.stays;
    }

pub returns-clause-run : goal.returns-clause-run
returns-clause-run c =
    ap (λ n. takes n c.args.who c.args.self.now) (sym c.loop-taken.invariant.most) ∙ sym c.loop-taken.invariant.left
    ∙ takes_end c.self.inside.most c.loop-taken.taken c.args.who c.loop-taken.self c.loop-taken-test.false
