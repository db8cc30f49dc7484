use Rattle.std.proofs.Common.{refl, inl, inr, Err, ap, arith}
use Rattle.program_gen.specs.Texts.{text_of}
use Rattle.program_run.specs.declared.status.Status.TheVariants as status
use Rattle.program_run.proofs.RunsWrite.{ran_all, ran_part, for_any}
use Rattle.program_run.proofs.generated.write_generated.Goals as goal

pub returns-in-Ok-clause-ran : goal.returns-in-Ok-clause-ran
returns-in-Ok-clause-ran g c = λ left reads.
    ran_all _ left reads reads _ _ _ _ (text_of c.args.number) status.Ok (for_any left _ refl) tt c.in-Ok.ensures.whole

pub returns-in-Err-WriteFault-clause-ran : goal.returns-in-Err-WriteFault-clause-ran
returns-in-Err-WriteFault-clause-ran g c = λ left reads.
    ran_part _ left reads reads _ _ _ _ (text_of c.args.number) status.Ok _ (for_any left _ refl)
    (let cut = c.in-Err-WriteFault.ensures.front in (cut.0, (let less = cut.1 in omega arith), cut.2))
    (λ e. c.in-Err-WriteFault.ensures.cause (ap (λ x. Err x) c.in-Err-WriteFault.field-0-is)) (inl refl)

pub returns-in-Err-NoMemory-clause-ran : goal.returns-in-Err-NoMemory-clause-ran
returns-in-Err-NoMemory-clause-ran g c = λ left reads.
    ran_part _ left reads reads _ _ _ _ (text_of c.args.number) status.Ok _ (for_any left _ refl)
    (let cut = c.in-Err-NoMemory.ensures.front in (cut.0, (let less = cut.1 in omega arith), cut.2))
    (λ e. absurd (cc e)) (inr refl)
