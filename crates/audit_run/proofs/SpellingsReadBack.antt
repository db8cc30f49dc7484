-- The reading of a line of an audit is the inverse of its spelling.
use Rattle.std.proofs.Common.{◌≡◌, ℕ, Bool, true, false, List, [], ◌∷◌, ◌++◌, codes, Option, Some, None, refl, ap, subst, ◌∙◌, arith}
use Rattle.std.specs.Prelude.{◌==◌, ◌&&◌, if◌then◌else◌}
use Rattle.std.specs.Int.{IsInRange}
use Rattle.std.specs.Fmt.{decimal}
use Rattle.std.specs.Str.Parse.{IsNumeral}
use Rattle.std.proofs.lemmas.Bool.{eqb-true}
use Rattle.std.proofs.lemmas.Fmt.{decimal_is_IsNumeral}
use Rattle.std.proofs.lemmas.Str.Parse.{digit_from_value}
use Rattle.broker_steps.specs.declared.stamp.Stamp.{Stamp}
use Rattle.session_text.specs.declared.line.Form.TheVariants.{Session, Session2}
use Rattle.session_text.specs.declared.line.Line.{Line}
use Rattle.session_text.specs.declared.line.Line.TheVariants as lines
use Rattle.session_text.specs.declared.line.SessionLine.{SessionLine}
use Rattle.session_text.specs.declared.line.SessionLine.TheVariants as sessions
use Rattle.session_text.specs.Reading.{line_of}
use Rattle.session_text.proofs.LinesReadBack.{reads_each, reads_only}
use Rattle.audit_run.specs.declared.audit_line.AuditLine.TheVariants.{Step, Out}
use Rattle.audit_run.specs.declared.audit_line.AuditText.{AuditText}
use Rattle.audit_run.specs.declared.audit_line.AuditText.TheVariants as texts
use Rattle.audit_run.specs.Grammar.{audit_spelling, IsAuditText, IsNoTake}
use Rattle.audit_run.specs.Reading.{audit_line_of, behind_out, line_found, sent_by, step_by}
use Rattle.audit_run.proofs.LinesAsked.{sent_valid, step_valid}

-- ---- a line that begins with a digit isn't one of what was sent

begins_otherwise : (a : ℕ) (rest : List ℕ) → (a == 111) ≡ false → behind_out (a ∷ rest) ≡ None
begins_otherwise a (b ∷ c ∷ d ∷ rest) e = rw e refl
begins_otherwise a (b ∷ c ∷ []) e = refl
begins_otherwise a (b ∷ []) e = refl
begins_otherwise a [] e = refl

digit_is_other : (a : ℕ) → IsInRange 48 57 a → (a == 111) ≡ false
digit_is_other a range = by (a == 111) refl
  where
    by : (b : Bool) → (a == 111) ≡ b → b ≡ false
    by true e = (let same = eqb-true a 111 e in absurd (omega (arith, range, same)))
    by false e = refl

begins_with_digit : (ds more : List ℕ) → IsNumeral 10 ds → behind_out (ds ++ more) ≡ None
begins_with_digit [] more h = absurd (omega (arith, h.0))
begins_with_digit (d ∷ ds) more h =
    begins_otherwise d (ds ++ more) (digit_is_other d (digit_from_value d h.1.0))

-- ---- what is spelled is read

step_spelled : (stamp : Stamp) (line : SessionLine) → IsNoTake line →
    step_by (Some (lines.Stamped stamp line)) ≡ Some (texts.Line (Step stamp line))
step_spelled stamp (sessions.Join role) h = refl
step_spelled stamp (sessions.Bytes q piece) h = refl
step_spelled stamp (sessions.Gone q) h = refl
step_spelled stamp (sessions.Take q n) h = absurd h
step_spelled stamp (sessions.Tokens q tokens) h = refl
step_spelled stamp (sessions.Shell step) h = refl

pub reads_each_spelling : (text : AuditText) → IsAuditText text → audit_line_of (audit_spelling text) ≡ Some text
unfolding audit_line_of
reads_each_spelling (texts.Line (Out q bytes)) h =
    ap sent_by (reads_each Session (lines.Session (sessions.Bytes q bytes)) h)
reads_each_spelling (texts.Line (Step stamp line)) h =
    let bytes = audit_spelling (texts.Line (Step stamp line)) in
    let other : behind_out bytes ≡ None =
    begins_with_digit (decimal stamp.moment) _ (decimal_is_IsNumeral stamp.moment h.0.0).0 in
    ap (line_found bytes) other
    ∙ ap step_by (reads_each Session2 (lines.Stamped stamp line) (h.0, h.1))
    ∙ step_spelled stamp line h.2
reads_each_spelling texts.End h = ap step_by (reads_each Session2 lines.End tt)

-- ---- what is read is spelled so

behind_only : (bytes rest : List ℕ) → behind_out bytes ≡ Some rest → bytes ≡ codes "out " ++ rest
behind_only (a ∷ b ∷ c ∷ d ∷ more) rest e =
    by (a == 111) (b == 117) (c == 116) (d == 32) refl refl refl refl e
  where
    by : (s t u v : Bool) → (a == 111) ≡ s → (b == 117) ≡ t → (c == 116) ≡ u → (d == 32) ≡ v →
        (if s && t && u && v then Some more else None) ≡ Some rest →
        a ∷ b ∷ c ∷ d ∷ more ≡ 111 ∷ 117 ∷ 116 ∷ 32 ∷ rest
    by true true true true o u t s f = (let behind : more ≡ rest = cc in
        rw (eqb-true a 111 o, eqb-true b 117 u, eqb-true c 116 t, eqb-true d 32 s, behind) refl)
    by true true true false o u t s f = cc
    by true true false v o u t s f = cc
    by true false w v o u t s f = cc
    by false x w v o u t s f = cc
behind_only (a ∷ b ∷ c ∷ []) rest e = cc
behind_only (a ∷ b ∷ []) rest e = cc
behind_only (a ∷ []) rest e = cc
behind_only [] rest e = cc

sent_only : (rest : List ℕ) (o : Option Line) (t : AuditText) → line_of Session (codes "bytes " ++ rest) ≡ o →
    sent_by o ≡ Some t → codes "out " ++ rest ≡ audit_spelling t
sent_only rest (Some (lines.Session (sessions.Bytes q bytes))) t e h =
    let same : texts.Line (Out q bytes) ≡ t = cc in
    let spelled = (reads_only Session (codes "bytes " ++ rest) (lines.Session (sessions.Bytes q bytes)) e).0 in
    let behind : codes "out " ++ rest ≡ audit_spelling (texts.Line (Out q bytes)) = cc in
    subst (λ (text : AuditText). codes "out " ++ rest ≡ audit_spelling text) same behind
sent_only rest (Some (lines.Session (sessions.Join role))) t e h = cc
sent_only rest (Some (lines.Session (sessions.Gone q))) t e h = cc
sent_only rest (Some (lines.Session (sessions.Take q n))) t e h = cc
sent_only rest (Some (lines.Session (sessions.Tokens q tokens))) t e h = cc
sent_only rest (Some (lines.Session (sessions.Shell step))) t e h = cc
sent_only rest (Some (lines.Header limits)) t e h = cc
sent_only rest (Some (lines.Act act)) t e h = cc
sent_only rest (Some (lines.Stamped stamp line)) t e h = cc
sent_only rest (Some (lines.Shell step)) t e h = cc
sent_only rest (Some lines.End) t e h = cc
sent_only rest None t e h = cc

stamped_only : (bytes : List ℕ) (stamp : Stamp) (line : SessionLine) (t : AuditText) →
    line_of Session2 bytes ≡ Some (lines.Stamped stamp line) → Some (texts.Line (Step stamp line)) ≡ Some t →
    bytes ≡ audit_spelling t
stamped_only bytes stamp line t e h =
    let same : texts.Line (Step stamp line) ≡ t = cc in
    subst (λ (text : AuditText). bytes ≡ audit_spelling text) same
    (reads_only Session2 bytes (lines.Stamped stamp line) e).0

step_only : (bytes : List ℕ) (o : Option Line) (t : AuditText) → line_of Session2 bytes ≡ o → step_by o ≡ Some t →
    bytes ≡ audit_spelling t
step_only bytes (Some (lines.Stamped stamp (sessions.Take q n))) t e h = cc
step_only bytes (Some (lines.Stamped stamp (sessions.Join role))) t e h =
    stamped_only bytes stamp (sessions.Join role) t e h
step_only bytes (Some (lines.Stamped stamp (sessions.Bytes q piece))) t e h =
    stamped_only bytes stamp (sessions.Bytes q piece) t e h
step_only bytes (Some (lines.Stamped stamp (sessions.Gone q))) t e h =
    stamped_only bytes stamp (sessions.Gone q) t e h
step_only bytes (Some (lines.Stamped stamp (sessions.Tokens q tokens))) t e h =
    stamped_only bytes stamp (sessions.Tokens q tokens) t e h
step_only bytes (Some (lines.Stamped stamp (sessions.Shell step))) t e h =
    stamped_only bytes stamp (sessions.Shell step) t e h
step_only bytes (Some lines.End) t e h =
    let same : texts.End ≡ t = cc in
    subst (λ (text : AuditText). bytes ≡ audit_spelling text) same (reads_only Session2 bytes lines.End e).0
step_only bytes (Some (lines.Header limits)) t e h = cc
step_only bytes (Some (lines.Act act)) t e h = cc
step_only bytes (Some (lines.Session line)) t e h = cc
step_only bytes (Some (lines.Shell step)) t e h = cc
step_only bytes None t e h = cc

found_only : (bytes : List ℕ) (o : Option (List ℕ)) (t : AuditText) → behind_out bytes ≡ o →
    line_found bytes o ≡ Some t → (bytes ≡ audit_spelling t) × IsAuditText t
found_only bytes (Some rest) t is e = (
  behind_only bytes rest is ∙ sent_only rest (line_of Session (codes "bytes " ++ rest)) t refl e,
  sent_valid rest (line_of Session (codes "bytes " ++ rest)) t refl e,
)
found_only bytes None t is e = (
  step_only bytes (line_of Session2 bytes) t refl e,
  step_valid bytes (line_of Session2 bytes) t refl e,
)

pub reads_only_spelling : (bytes : List ℕ) (text : AuditText) → audit_line_of bytes ≡ Some text →
    (bytes ≡ audit_spelling text) × IsAuditText text
unfolding audit_line_of
reads_only_spelling bytes text e = found_only bytes (behind_out bytes) text refl e
