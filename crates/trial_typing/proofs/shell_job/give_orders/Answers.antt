use Rattle.std.proofs.Common.{List, [], ◌∷◌, ◌++◌, ◌<◌, length, Err, refl, sym, subst, ◌∙◌, ap, arith}
use Rattle.std.specs.Prelude.{slice_index_or, All}
use Rattle.std.proofs.lemmas.List.Elements.{All-get_or}
use Rattle.broker_steps.specs.Ranges.{IsShellStep}
use Rattle.std.proofs.lemmas.Result.{err_from_is_err_and}
use Rattle.broker_steps.specs.declared.step.ShellStep.{ShellStep}
use Rattle.broker_steps.specs.declared.step.ShellStep.TheVariants as shell
use Rattle.broker_model.specs.declared.journal.Entry.TheVariants as entries
use Rattle.broker_model.specs.declared.journal.Entry.{Entry}
use Rattle.hub_lock.specs.Passes.{IsOf, PassSeat}
use Rattle.hub_calls.proofs.PassesGrow.{saw_none, saw_both}
use Rattle.trial_typing.specs.Ends.{end_by}
use Rattle.trial_typing.specs.ShellLaw.{Orders, ordered}
use Rattle.trial_typing.proofs.OrdersGiven.{one_more, all_of, stops_at, seat_both}
use Rattle.trial_typing.proofs.shell_job.give_orders.Goals as goal

pub loop-step-init : goal.loop-step-init
loop-step-init g c = record {
  pass = refl;
  saw = saw_none c.args.hub.now.limits c.args.pass.now.seen;
  given = c.requires.none;
}

pub order_step-requires-clause-own : goal.order_step-requires-clause-own
order_step-requires-clause-own g c =
    subst (λ (p : PassSeat). IsOf c.args.hub.now p) (sym c.loop-step.invariant.pass) c.requires.own

pub returns-in_err-order_step-clause-pass : goal.returns-in_err-order_step-clause-pass
returns-in_err-order_step-clause-pass g c =
    seat_both c.args.pass.now c.loop-step.pass c.order_step.new.pass c.loop-step.invariant.pass
    c.in_err-order_step.ensures.pass

pub returns-in_err-order_step-clause-saw : goal.returns-in_err-order_step-clause-saw
returns-in_err-order_step-clause-saw g c =
    saw_both c.args.hub.now.limits c.args.pass.now.seen c.loop-step.pass.seen c.order_step.new.pass.seen
    c.loop-step.invariant.saw c.in_err-order_step.ensures.saw

pub returns-in_err-order_step-clause-ends : goal.returns-in_err-order_step-clause-ends
returns-in_err-order_step-clause-ends g c =
    let p = err_from_is_err_and c.from_residual.result c.from_residual.ensures.1 in
    let stop = c.in_err-order_step.field-0.0 in
    rw (p.1, p.2)
    (subst (λ (l : List ShellStep). Orders c.args.hub.now.limits c.order_step.new.pass l (Err (end_by stop)))
    c.as_slice-step-items.ensures.same
    (stops_at c.args.hub.now.limits c.loop-step.pass c.order_step.new.pass c.as_slice-step-items.result.now
    c.loop-step.step-index (shell.Focus 0 0) stop (omega (arith, c.loop-step-test.true)) c.loop-step.invariant.given
    c.in_err-order_step.ensures.orders))

pub loop-step-preserved : goal.loop-step-preserved
loop-step-preserved g c =
    let i = c.loop-step.invariant in
    let e = c.in_ok-order_step.ensures in record {
      pass = seat_both c.args.pass.now c.loop-step.pass c.order_step.new.pass i.pass e.pass;
      saw = saw_both c.args.hub.now.limits c.args.pass.now.seen c.loop-step.pass.seen c.order_step.new.pass.seen
          i.saw e.saw;
      given = e.orders ∙ ap (λ (es : List Entry). es ++ entries.Shell
          (slice_index_or c.as_slice-step-items.result.now c.loop-step.step-index (shell.Focus 0 0)) ∷ []) i.given
          ∙ sym (one_more c.as_slice-step-items.result.now c.loop-step.step-index (shell.Focus 0 0)
          (omega (arith, c.loop-step-test.true)));
    }

pub returns-clause-ends : goal.returns-clause-ends
returns-clause-ends g c =
    c.loop-step.invariant.given
    ∙ all_of c.as_slice-step-items.result.now c.loop-step.step-index (omega (arith, c.loop-step-test.false))
    ∙ ap ordered c.as_slice-step-items.ensures.same

pub returns-clause-pass : goal.returns-clause-pass
returns-clause-pass g c = c.loop-step.invariant.pass

pub returns-clause-saw : goal.returns-clause-saw
returns-clause-saw g c = c.loop-step.invariant.saw

pub order_step-requires-clause-step : goal.order_step-requires-clause-step
order_step-requires-clause-step g c =
    let lt : c.loop-step.step-index < length c.as_slice-step-items.result.now = omega (arith, c.loop-step-test.true) in
    All-get_or IsShellStep c.as_slice-step-items.result.now c.loop-step.step-index (shell.Focus 0 0) lt
    (subst (λ (l : List ShellStep). All IsShellStep l) (sym c.as_slice-step-items.ensures.same)
    c.as_slice-step-items.ensures.each)
