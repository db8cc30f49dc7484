-- The reading of a line of an audit is the inverse of its spelling.
use Rattle.std.specs.Prelude.{◌≡◌, ℕ, List, Some}
use Rattle.audit_run.specs.declared.audit_line.AuditText.{AuditText}
use Rattle.audit_run.specs.Grammar.{audit_spelling, IsAuditText}
use Rattle.audit_run.specs.Reading.{audit_line_of}

-- bytes that read as a line are its spelling, and it is in its ranges
abbrev pub ReadsOnlySpellings : Type 0
ReadsOnlySpellings =
    (bytes : List ℕ) (text : AuditText) → audit_line_of bytes ≡ Some text →
    (bytes ≡ audit_spelling text) × IsAuditText text

-- each line's spelling reads as that line
abbrev pub ReadsEachSpelling : Type 0
ReadsEachSpelling =
    (text : AuditText) → IsAuditText text → audit_line_of (audit_spelling text) ≡ Some text
