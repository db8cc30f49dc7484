-- What the bytes of a line of an audit read as.
use Rattle.std.specs.Prelude.{ℕ, ◌==◌, ◌&&◌, Bool, if◌then◌else◌, List, ◌∷◌, ◌++◌, codes, Option, Some, None}
use Rattle.std.specs.Str.{bytes_eq}
use Rattle.session_text.specs.declared.line.Form.TheVariants.{Session, Session2}
use Rattle.session_text.specs.declared.line.Line.{Line}
use Rattle.session_text.specs.declared.line.Line.TheVariants as lines
use Rattle.session_text.specs.declared.line.SessionLine.TheVariants as sessions
use Rattle.session_text.specs.Reading.{line_of}
use Rattle.audit_run.specs.declared.audit_line.AuditLine.TheVariants.{Step, Out}
use Rattle.audit_run.specs.declared.audit_line.AuditText.{AuditText}
use Rattle.audit_run.specs.declared.audit_line.AuditText.TheVariants as texts

-- the header of an audit
abbrev pub is_header : List ℕ → Bool
is_header bytes = bytes_eq bytes (codes "audit 1")

-- what stands behind `out `
abbrev pub behind_out : List ℕ → Option (List ℕ)
behind_out (a ∷ b ∷ c ∷ d ∷ rest) =
    if a == 111 && b == 117 && c == 116 && d == 32 then Some rest else None
behind_out _ = None

-- the line of a peer's bytes says what is sent to it
abbrev pub sent_by : Option Line → Option AuditText
sent_by (Some (lines.Session (sessions.Bytes q bytes))) = Some (texts.Line (Out q bytes))
sent_by _ = None

-- a peer and bytes, as they stand in such a line
abbrev pub sent_of : List ℕ → Option AuditText
sent_of rest = sent_by (line_of Session (codes "bytes " ++ rest))

-- a line of form 2 that is no take, and the end
abbrev pub step_by : Option Line → Option AuditText
step_by (Some (lines.Stamped stamp (sessions.Take q n))) = None
step_by (Some (lines.Stamped stamp line)) = Some (texts.Line (Step stamp line))
step_by (Some lines.End) = Some texts.End
step_by _ = None

-- the bytes as such a line
abbrev pub step_of : List ℕ → Option AuditText
step_of bytes = step_by (line_of Session2 bytes)

-- by what stands behind `out `, or by the whole line where it begins otherwise
abbrev pub line_found : List ℕ → Option (List ℕ) → Option AuditText
line_found bytes (Some rest) = sent_of rest
line_found bytes None = step_of bytes

-- the line that the bytes are after the header
unfoldable pub audit_line_of : List ℕ → Option AuditText
audit_line_of bytes = line_found bytes (behind_out bytes)
