-- Where `audit` says yes, its lines are as they should be, and so is all that was sent to applications.
use Rattle.std.proofs.Common.{◌≡◌, ℕ, ◌+◌, Bool, true, false, List, [], ◌∷◌, codes, drop, length, Option, Some, None, refl, sym, ap, ◌∙◌}
use Rattle.std.specs.Prelude.{if◌then◌else◌, nat_lt}
use Rattle.std.proofs.lemmas.Option.{same_Some}
use Rattle.broker_model.specs.Limits.{number_counted}
use Rattle.seat_set.specs.Played.{Played}
use Rattle.audit_run.specs.declared.audit_line.AuditLine.{AuditLine}
use Rattle.audit_run.specs.declared.audit_line.AuditLine.TheVariants.{Step, Out}
use Rattle.audit_run.specs.declared.audit_line.AuditText.{AuditText}
use Rattle.audit_run.specs.declared.audit_line.AuditText.TheVariants as texts
use Rattle.audit_run.specs.Grammar.{HasAuditLine}
use Rattle.audit_run.specs.Reading.{audit_line_of, is_header}
use Rattle.audit_run.proofs.SpellingsReadBack.{reads_only_spelling}
use Rattle.audit_run.specs.Judged.{judged, IsFair}
use Rattle.audit_run.specs.Standing.{AreFair}
use Rattle.audit_run.specs.Verdict.{is_good}
use Rattle.audit_run.proofs.GoodComputed.{good_computed}
use Rattle.program_run.specs.declared.last_line.LastLine.{LastLine}
use Rattle.program_run.specs.declared.last_line.LastLine.TheVariants as last
use Rattle.program_run.specs.declared.reading.TheConstants.{INPUT_LIMIT}
use Rattle.program_run.specs.declared.status.Status.TheVariants as status
use Rattle.program_run.specs.Audit.{audit_answer, audit_from, audit_of_lines, by_audit_header, by_audit_line, by_end, counted, end_if_full, end_with, moment_of, text_after, timed}
use Rattle.program_run.specs.Endings.{Answer, ending, without_end, yes_line}
use Rattle.program_run.specs.Lines.{is_cut, lines_read}
use Rattle.program_run.specs.Run.{answer_by, output_of, status_of}
use Rattle.law_audit.specs.Lines.{audit_log, log_by, log_from}
use Rattle.law_audit.specs.Yes.{YesIsOwed}
use Rattle.law_audit.proofs.LogHolds.{Holds, log_holds, log_held, none_holds}
use Rattle.law_audit.proofs.SeenOwed.{seen_owed}

-- ---- a line that was read

timed_is : (moment : ℕ) (o : Option AuditText) (text : AuditText) → timed moment o ≡ Some text → o ≡ Some text
timed_is moment (Some (texts.Line (Step stamp line))) text e = by (nat_lt stamp.moment moment) e
  where
    by : (b : Bool) → (if b then None else Some (texts.Line (Step stamp line))) ≡ Some text →
        Some (texts.Line (Step stamp line)) ≡ Some text
    by true e = cc
    by false e = e
timed_is moment (Some (texts.Line (Out q bytes))) text e = e
timed_is moment (Some texts.End) text e = e
timed_is moment None text e = cc

has_line : (moment : ℕ) (raw : List ℕ) (line : AuditLine) → text_after moment raw ≡ Some (texts.Line line) →
    HasAuditLine line
has_line moment raw line e =
    (reads_only_spelling raw (texts.Line line) (timed_is moment (audit_line_of raw) (texts.Line line) e)).1

-- ---- how the output ends

full_not : (p : Played) → end_if_full p ≡ None → p.is_full ≡ false
full_not p e = by p.is_full e
  where
    by : (b : Bool) → (if b then Some (last.Full (number_counted p.play.journal)) else None) ≡ None → b ≡ false
    by true e = cc
    by false e = refl

-- a line with which it doesn't is as it should be
none_fair : (log : List AuditLine) (line : AuditLine) → end_with log line ≡ None → IsFair line log
none_fair log (Step stamp said) e = full_not (judged (Step stamp said ∷ log)) e
none_fair log (Out q bytes) e = by (is_good q bytes log) refl e
  where
    by : (b : Bool) → is_good q bytes log ≡ b → (if b then None else Some (last.No (length log + 2))) ≡ None →
        IsFair (Out q bytes) log
    by true good e = (good_computed q bytes log).0 good
    by false good e = cc

-- and one with which it does makes no yes
full_no : {A : Type 0} (p : Played) (end : LastLine) → end_if_full p ≡ Some end → (ending end).1 ≡ status.Ok → A
full_no {A} p end e ok = by p.is_full e
  where
    by : (b : Bool) → (if b then Some (last.Full (number_counted p.play.journal)) else None) ≡ Some end → A
    by true e =
        let same = same_Some (last.Full (number_counted p.play.journal)) end e in
        let no : status.JournalFull ≡ status.Ok = ap (λ (l : LastLine). (ending l).1) same ∙ ok in cc
    by false e = cc

end_no : {A : Type 0} (log : List AuditLine) (line : AuditLine) (end : LastLine) → end_with log line ≡ Some end →
    (ending end).1 ≡ status.Ok → A
end_no log (Step stamp said) end e ok = full_no (judged (Step stamp said ∷ log)) end e ok
end_no {A} log (Out q bytes) end e ok = by (is_good q bytes log) e
  where
    by : (b : Bool) → (if b then None else Some (last.No (length log + 2))) ≡ Some end → A
    by true e = cc
    by false e =
        let same = same_Some (last.No (length log + 2)) end e in
        let no : status.AuditNo ≡ status.Ok = ap (λ (l : LastLine). (ending l).1) same ∙ ok in cc

-- ---- all lines

-- what a yes says
record SaysYes (log : List AuditLine) (output : List ℕ) : Type 0 where
  fair : AreFair log
  holds : Holds (judged log)
  output_is : output ≡ yes_line (counted log)

no_end : (cut : Bool) (n : ℕ) (log : List AuditLine) → (without_end cut n).1 ≡ status.Ok →
    SaysYes log (without_end cut n).0
no_end true n log ok = cc
no_end false n log ok = cc

by_ended : (log all : List AuditLine) (line : AuditLine) (rest : Answer) (o : Option LastLine) →
    end_with log line ≡ o → (by_end o rest).1 ≡ status.Ok →
    (IsFair line log → rest.1 ≡ status.Ok → SaysYes all rest.0) → SaysYes all (by_end o rest).0
by_ended log all line rest (Some end) e ok next = end_no log line end e ok
by_ended log all line rest None e ok next = next (none_fair log line e) ok

by_text : (log : List AuditLine) (raw : List ℕ) (o : Option AuditText) (more : AuditLine → List AuditLine)
    (rest : AuditLine → Answer) → text_after (moment_of log) raw ≡ o → AreFair log → Holds (judged log) →
    (by_audit_line log o rest).1 ≡ status.Ok →
    ((line : AuditLine) → AreFair (line ∷ log) → Holds (judged (line ∷ log)) → (rest line).1 ≡ status.Ok →
    SaysYes (more line) (rest line).0) →
    SaysYes (log_by log o more) (by_audit_line log o rest).0
by_text log raw None more rest is fair holds ok next = cc
by_text log raw (Some texts.End) more rest is fair holds ok next =
    record { fair = fair; holds = holds; output_is = refl }
by_text log raw (Some (texts.Line line)) more rest is fair holds ok next =
    by_ended log (more line) line (rest line) (end_with log line) refl ok
    (λ own good. next line (own, fair) (log_holds line log (has_line (moment_of log) raw line is) holds) good)

lines_say : (cut : Bool) (log : List AuditLine) (lines : List (List ℕ)) → AreFair log → Holds (judged log) →
    (audit_from cut log lines).1 ≡ status.Ok → SaysYes (log_from log lines) (audit_from cut log lines).0
unfolding audit_from
lines_say cut log [] fair holds ok = no_end cut (length log + 1) log ok
lines_say cut log (raw ∷ lines) fair holds ok =
    by_text log raw (text_after (moment_of log) raw) (λ line. log_from (line ∷ log) lines)
    (λ line. audit_from cut (line ∷ log) lines) refl fair holds ok
    (λ line own held good. lines_say cut (line ∷ log) lines own held good)

header_says : (cut b : Bool) (lines : List (List ℕ)) → (by_audit_header cut b lines).1 ≡ status.Ok →
    SaysYes (log_from [] lines) (by_audit_header cut b lines).0
header_says cut true lines ok = lines_say cut [] lines tt none_holds ok
header_says cut false lines ok = cc

all_say : (cut : Bool) (lines : List (List ℕ)) → (audit_of_lines cut lines).1 ≡ status.Ok →
    SaysYes (log_from [] (drop 1 lines)) (audit_of_lines cut lines).0
all_say cut [] ok = no_end cut 0 [] ok
all_say cut (raw ∷ lines) ok = header_says cut (is_header raw) lines ok

-- ---- the input

-- what `audit` makes of an input
audited : List ℕ → Answer
audited input = audit_of_lines (is_cut INPUT_LIMIT input) (lines_read INPUT_LIMIT input)

audit_is : (input : List ℕ) →
    ((output_of (codes "audit" ∷ []) input, status_of (codes "audit" ∷ []) input) ≡ audited input)
unfolding output_of status_of answer_by audit_answer lines_read audited
audit_is input = refl

says_so : (input : List ℕ) → (audited input).1 ≡ status.Ok → SaysYes (audit_log input) (audited input).0
unfolding audited
says_so input ok = all_say (is_cut INPUT_LIMIT input) (lines_read INPUT_LIMIT input) ok

pub yes_owed : YesIsOwed
yes_owed input ok =
    let log : List AuditLine = audit_log input in
    let is = audit_is input in
    let says : SaysYes log (audited input).0 = says_so input (sym (ap (λ (a : Answer). a.1) is) ∙ ok) in
    let held = log_held log says.holds in
    record {
      fair = says.fair;
      output_is = ap (λ (a : Answer). a.0) is ∙ says.output_is;
      owed = λ q peer joined app. seen_owed log q peer says.fair held.held held.few joined app;
    }
