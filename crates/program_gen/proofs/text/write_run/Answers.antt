use Rattle.std.proofs.Common.{◌∙◌, refl, ap, arith}
use Rattle.session_gen.specs.Generated.{Progress}
use Rattle.program_gen.proofs.RunGoesOn.{begins, goes_on}
use Rattle.program_gen.proofs.TextFronts.{begins_writing, cut_off, ends_whole, ends_part, nothing_yet, of_number, on_ok, on_err, err_any}
use Rattle.program_gen.proofs.text.write_run.Goals as goal

pub steps-init : goal.steps-init
steps-init g c = record {
  run = begins c.args.number c.args.run.now c.requires.stands c.requires.first;
  writes = begins_writing c.args.number c.args.run.now _ _ c.requires.first c.in_ok-page.ensures.ok;
  later = omega arith;
  no_fault = refl;
}

pub write_step-requires-clause-stands : goal.write_step-requires-clause-stands
write_step-requires-clause-stands g c = c.steps.invariant.run.stands

pub write_step-requires-clause-more : goal.write_step-requires-clause-more
write_step-requires-clause-more g c = omega (arith, c.left.ensures, c.steps-test.true)

pub steps-preserved : goal.steps-preserved
steps-preserved g c = record {
  run = goes_on c.args.number c.steps.run _ c.steps.invariant.run c.in_ok-write_step.ensures.stands
      c.in_ok-write_step.ensures.made;
  writes = c.in_ok-write_step.ensures.whole _ c.steps.invariant.writes;
  later = omega (arith, c.steps.invariant.later, c.in_ok-write_step.ensures.never_falls);
  no_fault = c.in_ok-write_step.ensures.no_fault (λ e. cc e) ∙ c.steps.invariant.no_fault;
}

pub steps-smaller : goal.steps-smaller
steps-smaller g c =
    let made = ap (λ (x : Progress). x.made) c.in_ok-write_step.ensures.made in
    omega (arith, made, c.left.ensures, c.steps-test.true)

pub returns-in_err-page-clause-front : goal.returns-in_err-page-clause-front
returns-in_err-page-clause-front g c =
    err_any c.from_residual.result _ (nothing_yet (g.K.Sink.held c.args.output.now) c.args.number)

pub returns-in_err-write_step-clause-front : goal.returns-in_err-write_step-clause-front
returns-in_err-write_step-clause-front g c =
    err_any c.from_residual-in_err-write_step.result _
    (of_number c.args.number c.steps.run _ _ c.steps.invariant.run
    (c.in_err-write_step.ensures.front _ c.steps.invariant.writes))

pub returns-in_err-push_str-clause-front : goal.returns-in_err-push_str-clause-front
returns-in_err-push_str-clause-front g c =
    err_any c.from_residual-in_err-push_str.result _
    (of_number c.args.number c.steps.run _ _ c.steps.invariant.run
    (cut_off c.steps.run _ _ _ c.steps.invariant.run.stands.few c.steps.invariant.writes))

pub returns-clause-whole : goal.returns-clause-whole
returns-clause-whole g c =
    on_ok c.write_page.result _ _ _ c.write_page.ensures.whole c.write_page.ensures.empty (λ a e.
    ends_whole c.args.number c.steps.run _ _ _ _ _ c.steps.invariant.run
    (omega (arith, c.left.ensures, c.steps-test.false)) c.in_ok-push_str.ensures.bytes c.steps.invariant.writes a)

pub returns-clause-front : goal.returns-clause-front
returns-clause-front g c =
    on_err c.write_page.result _ _ c.write_page.ensures.part (λ part.
    ends_part c.args.number c.steps.run _ _ _ _ _ c.steps.invariant.run
    (omega (arith, c.left.ensures, c.steps-test.false)) c.in_ok-push_str.ensures.bytes c.steps.invariant.writes part)
