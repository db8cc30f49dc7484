-- How the output of an audit ends with a line, by what the audit answers.
use Rattle.std.proofs.Common.{◌≡◌, ℕ, ◌+◌, Bool, true, false, List, ◌∷◌, length, Some, None, sym, ap, ◌∙◌}
use Rattle.std.specs.Prelude.{if◌then◌else◌, nat_lt, IfSome}
use Rattle.std.proofs.lemmas.Bool.{false_from_ne_true}
use Rattle.broker_steps.specs.declared.stamp.Stamp.{Stamp}
use Rattle.session_text.specs.declared.line.SessionLine.{SessionLine}
use Rattle.session_text.proofs.LinesHold.{stamped_asked}
use Rattle.broker_model.specs.declared.journal.Kept.{Kept}
use Rattle.broker_model.specs.Limits.{number_counted}
use Rattle.audit_run.specs.declared.audit_line.AuditLine.{AuditLine}
use Rattle.audit_run.specs.declared.audit_line.AuditLine.TheVariants.{Step, Out}
use Rattle.audit_run.specs.declared.audit_line.AuditText.{AuditText}
use Rattle.audit_run.specs.declared.audit_line.AuditText.TheVariants as texts
use Rattle.audit_run.specs.Grammar.{HasAuditLine, IsAuditText}
use Rattle.audit_run.specs.declared.audit.AuditEnd.TheVariants as ends
use Rattle.audit_run.specs.Judged.{journal_of, IsAuditLine, IsEnd, IsFair}
use Rattle.audit_run.specs.Standing.{Auditing, Stands}
use Rattle.audit_run.specs.Verdict.{is_good}
use Rattle.audit_run.proofs.GoodComputed.{good_computed}
use Rattle.program_run.specs.declared.last_line.LastLine.{LastLine}
use Rattle.program_run.specs.declared.last_line.LastLine.TheVariants as last
use Rattle.program_run.specs.Audit.{end_with, timed}
use Rattle.program_run.specs.AuditPlayed.{IsJudged}

-- ---- by the answer

fair_goes : (log : List AuditLine) (line : AuditLine) → IsFair line log → None ≡ end_with log line
fair_goes log (Step stamp said) h =
    sym (ap (λ (b : Bool).
    if b then Some (last.Full (number_counted (journal_of (Step stamp said ∷ log)))) else None) h)
fair_goes log (Out q bytes) h =
    sym (ap (λ (b : Bool). if b then None else Some (last.No (length log + 2))) ((good_computed q bytes log).1 h))

unfair_ends : (log : List AuditLine) (line : AuditLine) (n : ℕ) → IsEnd line log ends.No → n ≡ length log + 2 →
    Some (last.No n) ≡ end_with log line
unfair_ends log (Step stamp said) n h e = absurd h
unfair_ends log (Out q bytes) n h e =
    let bad : is_good q bytes log ≡ false =
    false_from_ne_true (is_good q bytes log) (λ t. h ((good_computed q bytes log).0 t)) in
    ap (λ (k : ℕ). Some (last.No k)) e
    ∙ sym (ap (λ (b : Bool). if b then None else Some (last.No (length log + 2))) bad)

full_ends : (log : List AuditLine) (line : AuditLine) (kept : Kept) → IsEnd line log (ends.JournalFull kept) →
    Some (last.Full kept.entries) ≡ end_with log line
full_ends log (Step stamp said) kept h =
    ap (λ (k : Kept). Some (last.Full k.entries)) h.1
    ∙ sym (ap (λ (b : Bool).
    if b then Some (last.Full (number_counted (journal_of (Step stamp said ∷ log)))) else None) h.0)
full_ends log (Out q bytes) kept h = absurd h

pub goes_on : (log : List AuditLine) (line : AuditLine) (after : Auditing) → IsFair line log
    → Stands (line ∷ log) after → IsJudged log line after None
goes_on log line after h s = record { ends = fair_goes log line h; stands = λ e. s }

judged_so : (log : List AuditLine) (line : AuditLine) (after : Auditing) (end : LastLine) →
    Some end ≡ end_with log line → IsJudged log line after (Some end)
judged_so log line after end h = record { ends = h; stands = λ e. never e }
  where
    never : Some end ≡ None → Stands (line ∷ log) after
    never e = cc

pub is_no : (log : List AuditLine) (line : AuditLine) (after : Auditing) (n : ℕ) → IsEnd line log ends.No →
    n ≡ length log + 2 → IsJudged log line after (Some (last.No n))
is_no log line after n h e = judged_so log line after (last.No n) (unfair_ends log line n h e)

pub is_full : (log : List AuditLine) (line : AuditLine) (after : Auditing) (kept : Kept) →
    IsEnd line log (ends.JournalFull kept) → IsJudged log line after (Some (last.Full kept.entries))
is_full log line after kept h = judged_so log line after (last.Full kept.entries) (full_ends log line kept h)

-- ---- what a line holds

pub line_holds : (line : AuditLine) → HasAuditLine line → IsAuditLine line
line_holds (Step stamp said) h = stamped_asked said h.1
line_holds (Out q bytes) h = tt

stamp_holds : (b : Bool) (stamp : Stamp) (said : SessionLine) → HasAuditLine (Step stamp said) →
    IfSome (if b then None else Some (texts.Line (Step stamp said))) IsAuditText
stamp_holds true stamp said h = tt
stamp_holds false stamp said h = h

pub timed_holds : (moment : ℕ) (text : AuditText) → IsAuditText text → IfSome (timed moment (Some text)) IsAuditText
timed_holds moment (texts.Line (Step stamp said)) h = stamp_holds (nat_lt stamp.moment moment) stamp said h
timed_holds moment (texts.Line (Out q bytes)) h = h
timed_holds moment texts.End h = tt
