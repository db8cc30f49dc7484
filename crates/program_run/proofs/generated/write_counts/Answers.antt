use Rattle.std.proofs.Common.{ap, refl, inl, string_bytes, arith}
use Rattle.program_run.specs.declared.status.Status.TheVariants as status
use Rattle.program_run.proofs.RunsWrite.{ran_all, ran_part, for_any}
use Rattle.program_run.proofs.generated.write_counts.Goals as goal

pub returns-in-Ok-write_all-clause-ran : goal.returns-in-Ok-write_all-clause-ran
returns-in-Ok-write_all-clause-ran g c = λ left reads.
    ran_all _ left reads reads _ _ _ _ (string_bytes c.in-Ok.line) status.Ok
    (for_any left _ (ap (λ t. (t, status.Ok)) c.in-Ok.ensures)) tt
    (rw c.as_bytes.ensures.value at c.in-Ok-write_all.ensures.whole)

pub returns-clause-ran : goal.returns-clause-ran
returns-clause-ran g c = λ left reads.
    let cut = rw c.as_bytes.ensures.value at c.in-Err-write_all.ensures.prefix in
    ran_part _ left reads reads _ _ _ _ (string_bytes c.in-Ok.line) status.Ok _
    (for_any left _ (ap (λ t. (t, status.Ok)) c.in-Ok.ensures))
    (cut.0, (let less = cut.1 in omega arith), cut.2) (λ e. c.in-Err-write_all.ensures.cause) (inl refl)
