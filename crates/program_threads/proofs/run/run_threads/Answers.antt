use Rattle.std.proofs.Common.{◌∙◌, sym}
use Rattle.program_threads.proofs.OutputTold.{asked_whole, asked_front}
use Rattle.program_threads.proofs.run.run_threads.Goals as goal

pub returns-in-Ok-write_all-clause-whole : goal.returns-in-Ok-write_all-clause-whole
returns-in-Ok-write_all-clause-whole g c = λ _.
    asked_whole _ _ _ c.in-Some.number _ _ (sym c.number_asked.ensures ∙ c.in-Some.is) c.in-Ok.ensures.whole
    c.as_bytes.ensures.value c.in-Ok-write_all.ensures.whole

pub returns-clause-front : goal.returns-clause-front
returns-clause-front g c = λ _.
    asked_front _ _ _ c.in-Some.number _ _ (sym c.number_asked.ensures ∙ c.in-Some.is) c.in-Ok.ensures.whole
    c.as_bytes.ensures.value c.in-Err.ensures.prefix
