use Rattle.program_gen.proofs.TextFronts.{line_added, page_written, cut_off, cut_in_step, on_ok, on_err, err_any}
use Rattle.program_gen.proofs.text.write_step.Goals as goal

pub returns-in_err-step-clause-front : goal.returns-in_err-step-clause-front
returns-in_err-step-clause-front g c = λ held w.
    err_any c.from_residual.result _ (cut_off c.args.run.now _ held _ c.requires.stands.few w)

pub returns-in_err-add_step-clause-front : goal.returns-in_err-add_step-clause-front
returns-in_err-add_step-clause-front g c = λ held w.
    err_any c.from_residual-in_err-add_step.result _ (cut_off c.args.run.now _ held _ c.requires.stands.few w)

pub returns-then-len-lt-PIECE-clause-whole : goal.returns-then-len-lt-PIECE-clause-whole
returns-then-len-lt-PIECE-clause-whole g c = λ held w.
    line_added c.args.run.now _ c.in_ok-step.step _ _ held _ c.in_ok-step.ensures.made c.in_ok-step.ensures.step
    c.in_ok-add_step.ensures w

pub returns-clause-whole : goal.returns-clause-whole
returns-clause-whole g c = λ held w.
    on_ok c.write_page.result _ _ _ c.write_page.ensures.whole c.write_page.ensures.empty (λ a e.
    page_written _ _ _ held _ _
    (line_added c.args.run.now _ c.in_ok-step.step _ _ held _ c.in_ok-step.ensures.made c.in_ok-step.ensures.step
    c.in_ok-add_step.ensures w) a e)

pub returns-clause-front : goal.returns-clause-front
returns-clause-front g c = λ held w.
    on_err c.write_page.result _ _ c.write_page.ensures.part (λ part.
    cut_in_step c.args.run.now _ c.in_ok-step.step _ _ held _ _ c.in_ok-step.ensures.stands c.in_ok-step.ensures.made
    c.in_ok-step.ensures.step c.in_ok-add_step.ensures w part)
