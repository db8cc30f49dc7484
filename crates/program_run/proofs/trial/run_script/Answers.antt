use Rattle.std.proofs.Common.{◌∙◌, ap, ◌≡◌, eqb, length, string_bytes, arith, inl, refl}
use Rattle.program_run.specs.declared.reading.TheConstants.{INPUT_LIMIT}
use Rattle.program_run.specs.Lines.{lines_of}
use Rattle.program_run.specs.Trials.{trial_lines}
use Rattle.program_run.proofs.InputReadToEnd.{read_whole}
use Rattle.program_run.proofs.RunsWrite.{script_is, ran_all, ran_part}
use Rattle.program_run.proofs.trial.run_script.Goals as goal

pub returns-in-Ok-write_all-clause-ran : goal.returns-in-Ok-write_all-clause-ran
returns-in-Ok-write_all-clause-ran g c =
    let size : c.len.result ≡ length c.in-Ok.bytes.items = omega (arith, c.in-Ok.bytes.ok.0, c.len.ensures) in
    let told = c.in-Ok-trial_output.ensures.answer
    ∙ ap (λ b. trial_lines (eqb c.len.result INPUT_LIMIT) (lines_of (eqb c.len.result INPUT_LIMIT) b))
    c.deref.ensures.value in
    let is = script_is (g.S.Source.left c.args.input.now) c.in-Ok.bytes.items
    (string_bytes c.in-Ok-trial_output.answer.0, c.in-Ok-trial_output.answer.1) (eqb c.len.result INPUT_LIMIT)
    (ap (λ n. eqb n INPUT_LIMIT) size) c.in-Ok.ensures.all told in
    ran_all _ _ _ _ _ _ _ _ (string_bytes c.in-Ok-trial_output.answer.0) c.in-Ok-trial_output.answer.1 is
    c.in-Ok-trial_output.ensures.decided (rw c.as_bytes.ensures.value at c.in-Ok-write_all.ensures.whole)

pub returns-in-Ok-write_all-clause-script_read : goal.returns-in-Ok-write_all-clause-script_read
returns-in-Ok-write_all-clause-script_read g c =
    read_whole _ c.in-Ok.bytes.items c.in-Ok.ensures.took c.in-Ok.ensures.all

pub returns-clause-script_read : goal.returns-clause-script_read
returns-clause-script_read g c = read_whole _ c.in-Ok.bytes.items c.in-Ok.ensures.took c.in-Ok.ensures.all

pub returns-clause-ran : goal.returns-clause-ran
returns-clause-ran g c =
    let size : c.len.result ≡ length c.in-Ok.bytes.items = omega (arith, c.in-Ok.bytes.ok.0, c.len.ensures) in
    let told = c.in-Ok-trial_output.ensures.answer
    ∙ ap (λ b. trial_lines (eqb c.len.result INPUT_LIMIT) (lines_of (eqb c.len.result INPUT_LIMIT) b))
    c.deref.ensures.value in
    let is = script_is (g.S.Source.left c.args.input.now) c.in-Ok.bytes.items
    (string_bytes c.in-Ok-trial_output.answer.0, c.in-Ok-trial_output.answer.1) (eqb c.len.result INPUT_LIMIT)
    (ap (λ n. eqb n INPUT_LIMIT) size) c.in-Ok.ensures.all told in
    let cut = rw c.as_bytes.ensures.value at c.in-Err-write_all.ensures.prefix in
    ran_part _ _ _ _ _ _ _ _ (string_bytes c.in-Ok-trial_output.answer.0) c.in-Ok-trial_output.answer.1 _ is
    (cut.0, (let less = cut.1 in omega arith), cut.2) (λ e. c.in-Err-write_all.ensures.cause) (inl refl)
