use Rattle.std.proofs.Common.{subst, arith}
use Rattle.audit_run.specs.declared.audit.AuditEnd.{AuditEnd}
use Rattle.audit_run.specs.Judged.{IsEnd}
use Rattle.program_run.proofs.AuditsEnd.{goes_on, is_no}
use Rattle.program_run.proofs.audit.judge.Goals as goal

pub returns-in-Ok : goal.returns-in-Ok
returns-in-Ok c = λ log s count few.
    goes_on log c.args.line.now c.line.new.self (c.in-Ok.ensures.fair log s) (c.in-Ok.ensures.stands log s)

pub returns-in-Err-No : goal.returns-in-Err-No
returns-in-Err-No c = λ log s count few.
    is_no log c.args.line.now c.line.new.self c.saturating_add.result
    (subst (λ (why : AuditEnd). IsEnd c.args.line.now log why) c.in-Err-No.field-0-is (c.in-Err-No.ensures.end log s))
    (omega (arith, few, count, c.saturating_add.ensures))
