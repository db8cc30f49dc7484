-- An audit as far as its lines came.
use Rattle.std.specs.Prelude.{◌≡◌, ℕ, ◌+◌, Bool, List, [], ◌++◌, length, Option, Some, None}
use Rattle.audit_run.specs.declared.audit_line.AuditLine.{AuditLine}
use Rattle.audit_run.specs.Standing.{Auditing, Stands}
use Rattle.program_run.specs.declared.audit.AuditPlay.{AuditPlay}
use Rattle.program_run.specs.Audit.{audit_from, audit_of_lines, moment_of}

-- behind the header the audit is of these lines, and any answer for what came is one for what is
-- left after them
pub record IsAuditOf (audit : Auditing) (moment before : ℕ) (done : List (List ℕ)) : Type 0 where
  pub log : List AuditLine
  pub stands : Stands log audit
  pub at : moment ≡ moment_of log
  pub count : before ≡ length log + 1
  pub goes_on : (cut : Bool) (more : List (List ℕ))
      → audit_of_lines cut (done ++ more) ≡ audit_from cut log more

-- before it no line came
abbrev pub StandsBy : Option Auditing → ℕ → ℕ → List (List ℕ) → Type 0
StandsBy None moment before done = (moment ≡ 0) × (before ≡ 0) × (done ≡ [])
StandsBy (Some audit) moment before done = IsAuditOf audit moment before done

-- these lines came, and nothing was written
pub record AuditStands (play : AuditPlay) (done : List (List ℕ)) (output : List ℕ) : Type 0 where
  pub count : play.before ≡ length done
  pub none : output ≡ []
  pub stands : StandsBy play.audit play.moment play.before done
