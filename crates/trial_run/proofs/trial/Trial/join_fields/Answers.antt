use Rattle.std.proofs.Common.{sym, subst, ◌∙◌, arith}
use Rattle.std.proofs.lemmas.Result.{err_from_is_err_and}
use Rattle.trial_run.specs.Ran.{Ran}
use Rattle.trial_run.specs.Play.{TrialPlay}
use Rattle.trial_run.specs.Working.{IsHalt}
use Rattle.trial_run.proofs.LoopsRun.{joins_go, joins_stop, joins_end}
use Rattle.trial_run.proofs.trial.Trial.join_fields.Goals as goal

pub returns-in_err-join_field-clause-run : goal.returns-in_err-join_field-clause-run
returns-in_err-join_field-clause-run c =
    let p = err_from_is_err_and c.from_residual.result c.from_residual.ensures.1 in
    rw (p.1, p.2)
    (subst (λ (r : Ran TrialPlay). IsHalt r c.in_err-join_field.field-0.0 c.join_field.new.self)
    c.loop-joined.invariant.left
    (joins_stop c.args.count c.loop-joined.joined c.loop-joined.self _ _ c.loop-joined-test.true
    c.in_err-join_field.ensures.run))

pub loop-joined-preserved : goal.loop-joined-preserved
loop-joined-preserved c =
    let more = c.in_ok-join_field.ensures.fields in
    let so-far = c.loop-joined.invariant.fields in
    record {
      left =
          sym (joins_go c.args.count c.loop-joined.joined c.loop-joined.self c.join_field.new.self
          c.loop-joined-test.true
          c.in_ok-join_field.ensures.run)
          ∙ c.loop-joined.invariant.left;
      fields = omega arith;
    }

pub returns-clause-run : goal.returns-clause-run
returns-clause-run c =
    sym c.loop-joined.invariant.left
    ∙ joins_end c.args.count c.loop-joined.joined c.loop-joined.self c.loop-joined-test.false
