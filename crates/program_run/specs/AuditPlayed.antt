-- What one line of an audit comes to, by what it reads as.
use Rattle.std.specs.Prelude.{◌≡◌, ℕ, ◌+◌, List, ◌∷◌, length, Option, Some, None}
use Rattle.audit_run.specs.declared.audit_line.AuditLine.{AuditLine}
use Rattle.audit_run.specs.declared.audit_line.AuditText.{AuditText}
use Rattle.audit_run.specs.declared.audit_line.AuditText.TheVariants as texts
use Rattle.audit_run.specs.Standing.{Auditing, Stands}
use Rattle.program_run.specs.declared.last_line.LastLine.{LastLine}
use Rattle.program_run.specs.declared.last_line.LastLine.TheVariants as last
use Rattle.program_run.specs.Audit.{counted, end_with, moment_of}

-- how the output ends with a line after these, and where it doesn't, the audit is of it too
pub record IsJudged (log : List AuditLine) (line : AuditLine) (after : Auditing)
    (end : Option LastLine) : Type 0 where
  pub ends : end ≡ end_with log line
  pub stands : end ≡ None → Stands (line ∷ log) after

-- the same of what a line reads as, and the moment is that of the line
abbrev pub IsAuditLinePlayed : List AuditLine → Option AuditText → Auditing → ℕ → Option LastLine →
    Type 0
IsAuditLinePlayed log None after moment end = end ≡ Some (last.Bad (length log + 2))
IsAuditLinePlayed log (Some texts.End) after moment end = end ≡ Some (last.Yes (counted log))
IsAuditLinePlayed log (Some (texts.Line line)) after moment end =
    IsJudged log line after end × (moment ≡ moment_of (line ∷ log))
