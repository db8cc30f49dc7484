-- What is written for the lines of an audit, and the status.
use Rattle.std.specs.Prelude.{ℕ, ◌+◌, Bool, true, false, nat_lt, min, if◌then◌else◌, List, [], ◌∷◌, length, Option, Some, None}
use Rattle.broker_model.specs.Limits.{number_counted}
use Rattle.seat_set.specs.Played.{Played}
use Rattle.audit_run.specs.declared.audit_line.AuditLine.{AuditLine}
use Rattle.audit_run.specs.declared.audit_line.AuditLine.TheVariants.{Step, Out}
use Rattle.audit_run.specs.declared.audit_line.AuditText.{AuditText}
use Rattle.audit_run.specs.declared.audit_line.AuditText.TheVariants as texts
use Rattle.audit_run.specs.Reading.{audit_line_of, is_header}
use Rattle.audit_run.specs.Judged.{judged, dones_of, most_dones}
use Rattle.audit_run.specs.Verdict.{is_good}
use Rattle.program_run.specs.declared.last_line.LastLine.{LastLine}
use Rattle.program_run.specs.declared.last_line.LastLine.TheVariants as last
use Rattle.program_run.specs.Lines.{lines_of}
use Rattle.program_run.specs.Endings.{Answer, ending, without_end}

-- the moment of the newest line that has one
abbrev pub moment_of : List AuditLine → ℕ
moment_of [] = 0
moment_of (Step stamp line ∷ older) = stamp.moment
moment_of (Out q bytes ∷ older) = moment_of older

-- a line is none, if its moment is below that of a line before it
abbrev pub timed : ℕ → Option AuditText → Option AuditText
timed moment (Some (texts.Line (Step stamp line))) =
    (if nat_lt stamp.moment moment then None else Some (texts.Line (Step stamp line)))
timed moment text = text

-- what a line says after the header and a line that came at the moment
abbrev pub text_after : ℕ → List ℕ → Option AuditText
text_after moment raw = timed moment (audit_line_of raw)

-- how many entries are counted, where the journal was full
abbrev pub end_if_full : Played → Option LastLine
end_if_full p = if p.is_full then Some (last.Full (number_counted p.play.journal)) else None

-- How the output ends with a line after these, if it does: the journal was full for it, or what was
-- sent is no good. The line behind the header and these has the number by which it is named.
abbrev pub end_with : List AuditLine → AuditLine → Option LastLine
end_with log (Step stamp line) = end_if_full (judged (Step stamp line ∷ log))
end_with log (Out q bytes) = if is_good q bytes log then None else Some (last.No (length log + 2))

-- what is counted of the dones
abbrev pub counted : List AuditLine → ℕ
counted log = min (dones_of log) most_dones

-- the answer where the output ends, or that of the lines after it
abbrev pub by_end : Option LastLine → Answer → Answer
by_end (Some end) rest = ending end
by_end None rest = rest

-- what a line after these makes of the answer for those behind it, which `rest` gives
abbrev pub by_audit_line : List AuditLine → Option AuditText → (AuditLine → Answer) → Answer
by_audit_line log None rest = ending (last.Bad (length log + 2))
by_audit_line log (Some texts.End) rest = ending (last.Yes (counted log))
by_audit_line log (Some (texts.Line line)) rest = by_end (end_with log line) (rest line)

-- the answer for the lines that are left after the header and these, the newest first
unfoldable pub audit_from : Bool → List AuditLine → List (List ℕ) → Answer
audit_from cut log [] = without_end cut (length log + 1)
audit_from cut log (raw ∷ lines) =
    by_audit_line log (text_after (moment_of log) raw) (λ line. audit_from cut (line ∷ log) lines)

-- the answer for the lines after the first, which has to be the header
abbrev pub by_audit_header : Bool → Bool → List (List ℕ) → Answer
by_audit_header cut true lines = audit_from cut [] lines
by_audit_header cut false lines = ending (last.Bad 1)

abbrev pub audit_of_lines : Bool → List (List ℕ) → Answer
audit_of_lines cut [] = without_end cut 0
audit_of_lines cut (raw ∷ lines) = by_audit_header cut (is_header raw) lines

-- the answer for an audit of which at most the limit was read
unfoldable pub audit_answer : Bool → List ℕ → Answer
audit_answer cut input = audit_of_lines cut (lines_of cut input)
