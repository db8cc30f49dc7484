-- The lines of an audit, as its input gives them.
use Rattle.std.specs.Prelude.{ℕ, List, [], ◌∷◌, drop, Option, Some, None}
use Rattle.audit_run.specs.declared.audit_line.AuditLine.{AuditLine}
use Rattle.audit_run.specs.declared.audit_line.AuditText.{AuditText}
use Rattle.audit_run.specs.declared.audit_line.AuditText.TheVariants as texts
use Rattle.program_run.specs.Audit.{moment_of, text_after}
use Rattle.program_run.specs.Lines.{input_limit, lines_read}

-- what a line adds to these; `rest` gives those behind it
abbrev pub log_by : List AuditLine → Option AuditText → (AuditLine → List AuditLine) →
    List AuditLine
log_by log None rest = log
log_by log (Some texts.End) rest = log
log_by log (Some (texts.Line line)) rest = rest line

-- these lines and those that come behind them, the newest first, up to the end of the audit or the
-- first that is none
abbrev pub log_from : List AuditLine → List (List ℕ) → List AuditLine
log_from log [] = log
log_from log (raw ∷ lines) =
    log_by log (text_after (moment_of log) raw) (λ line. log_from (line ∷ log) lines)

-- those of an input, behind its first line
abbrev pub audit_log : List ℕ → List AuditLine
audit_log input = log_from [] (drop 1 (lines_read input_limit input))
