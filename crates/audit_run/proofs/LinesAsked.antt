-- What a line of an audit reads as holds only what such a line can give.
use Rattle.std.proofs.Common.{◌≡◌, ℕ, List, ◌++◌, codes, Option, Some, None, Result, Ok, Err, refl, subst}
use Rattle.std.specs.Prelude.{IfOk}
use Rattle.broker_steps.specs.declared.stamp.Stamp.{Stamp}
use Rattle.session_text.specs.declared.line.BadLine.{BadLine}
use Rattle.session_text.specs.declared.line.BadLine.TheVariants as bad
use Rattle.session_text.specs.declared.line.Form.TheVariants.{Session, Session2}
use Rattle.session_text.specs.declared.line.Line.{Line}
use Rattle.session_text.specs.declared.line.Line.TheVariants as lines
use Rattle.session_text.specs.declared.line.SessionLine.{SessionLine}
use Rattle.session_text.specs.declared.line.SessionLine.TheVariants as sessions
use Rattle.session_text.specs.Reading.{Reads, line_of}
use Rattle.session_text.proofs.LinesReadBack.{reads_only}
use Rattle.audit_run.specs.declared.audit_line.AuditLine.TheVariants.{Step, Out}
use Rattle.audit_run.specs.declared.audit_line.AuditText.{AuditText}
use Rattle.audit_run.specs.declared.audit_line.AuditText.TheVariants as texts
use Rattle.audit_run.specs.Grammar.{IsAuditText, IsNoTake}
use Rattle.audit_run.specs.Reading.{sent_by, sent_of, step_by, step_of}

pub sent_valid : (rest : List ℕ) (o : Option Line) (t : AuditText) → line_of Session (codes "bytes " ++ rest) ≡ o →
    sent_by o ≡ Some t → IsAuditText t
sent_valid rest (Some (lines.Session (sessions.Bytes q bytes))) t e h =
    let same : texts.Line (Out q bytes) ≡ t = cc in
    subst IsAuditText same (reads_only Session (codes "bytes " ++ rest) (lines.Session (sessions.Bytes q bytes)) e).1
sent_valid rest (Some (lines.Session (sessions.Join role))) t e h = cc
sent_valid rest (Some (lines.Session (sessions.Gone q))) t e h = cc
sent_valid rest (Some (lines.Session (sessions.Take q n))) t e h = cc
sent_valid rest (Some (lines.Session (sessions.Tokens q tokens))) t e h = cc
sent_valid rest (Some (lines.Session (sessions.Shell step))) t e h = cc
sent_valid rest (Some (lines.Header limits)) t e h = cc
sent_valid rest (Some (lines.Act act)) t e h = cc
sent_valid rest (Some (lines.Stamped stamp line)) t e h = cc
sent_valid rest (Some (lines.Shell step)) t e h = cc
sent_valid rest (Some lines.End) t e h = cc
sent_valid rest None t e h = cc

stamped_valid : (bytes : List ℕ) (stamp : Stamp) (line : SessionLine) (t : AuditText) →
    line_of Session2 bytes ≡ Some (lines.Stamped stamp line) → IsNoTake line →
    Some (texts.Line (Step stamp line)) ≡ Some t → IsAuditText t
stamped_valid bytes stamp line t e free h =
    let valid = (reads_only Session2 bytes (lines.Stamped stamp line) e).1 in
    let same : texts.Line (Step stamp line) ≡ t = cc in
    subst IsAuditText same (valid.0, valid.1, free)

pub step_valid : (bytes : List ℕ) (o : Option Line) (t : AuditText) → line_of Session2 bytes ≡ o → step_by o ≡ Some t →
    IsAuditText t
step_valid bytes (Some (lines.Stamped stamp (sessions.Take q n))) t e h = cc
step_valid bytes (Some (lines.Stamped stamp (sessions.Join role))) t e h =
    stamped_valid bytes stamp (sessions.Join role) t e tt h
step_valid bytes (Some (lines.Stamped stamp (sessions.Bytes q piece))) t e h =
    stamped_valid bytes stamp (sessions.Bytes q piece) t e tt h
step_valid bytes (Some (lines.Stamped stamp (sessions.Gone q))) t e h =
    stamped_valid bytes stamp (sessions.Gone q) t e tt h
step_valid bytes (Some (lines.Stamped stamp (sessions.Tokens q tokens))) t e h =
    stamped_valid bytes stamp (sessions.Tokens q tokens) t e tt h
step_valid bytes (Some (lines.Stamped stamp (sessions.Shell step))) t e h =
    stamped_valid bytes stamp (sessions.Shell step) t e tt h
step_valid bytes (Some lines.End) t e h = let same : texts.End ≡ t = cc in subst IsAuditText same tt
step_valid bytes (Some (lines.Header limits)) t e h = cc
step_valid bytes (Some (lines.Act act)) t e h = cc
step_valid bytes (Some (lines.Session line)) t e h = cc
step_valid bytes (Some (lines.Shell step)) t e h = cc
step_valid bytes None t e h = cc

pub sent_asked : (rest : List ℕ) (r : Result AuditText BadLine) → Reads r (sent_of rest) → IfOk r IsAuditText
sent_asked rest (Ok t) h = sent_valid rest (line_of Session (codes "bytes " ++ rest)) t refl h
sent_asked rest (Err bad.Grammar) h = tt
sent_asked rest (Err bad.NoMemory) h = tt

pub step_asked : (bytes : List ℕ) (r : Result AuditText BadLine) → Reads r (step_of bytes) → IfOk r IsAuditText
step_asked bytes (Ok t) h = step_valid bytes (line_of Session2 bytes) t refl h
step_asked bytes (Err bad.Grammar) h = tt
step_asked bytes (Err bad.NoMemory) h = tt
