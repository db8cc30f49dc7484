-- What is written for the lines of a session, and the status.
use Rattle.std.specs.Prelude.{ℕ, ◌+◌, Bool, if◌then◌else◌, nat_lt, List, [], ◌∷◌, length, Option, Some, None}
use Rattle.broker_steps.specs.declared.stamp.Stamp.{Stamp}
use Rattle.session_text.specs.declared.line.Form.{Form}
use Rattle.broker_steps.specs.declared.limits.Limits.{Limits}
use Rattle.session_text.specs.declared.line.Form.TheVariants.{Session, Session2}
use Rattle.session_text.specs.declared.line.Line.{Line}
use Rattle.session_text.specs.declared.line.Line.TheVariants as line
use Rattle.session_text.specs.Reading.{line_of}
use Rattle.lines_transcript.specs.Printing.{unstamped}
use Rattle.broker_model.specs.Limits.{number_counted}
use Rattle.program_run.specs.declared.last_line.LastLine.TheVariants as last
use Rattle.program_run.specs.declared.session_line.Meaning.{Meaning}
use Rattle.program_run.specs.declared.session_line.Meaning.TheVariants as meaning
use Rattle.program_run.specs.declared.session_line.Opening.{Opening}
use Rattle.program_run.specs.declared.session_line.Stage.{Stage}
use Rattle.program_run.specs.Lines.{lines_of}
use Rattle.program_run.specs.Endings.{Answer, with_front, ending, without_end}
use Rattle.seat_set.specs.Played.{Play, Played, line_played}
use Rattle.lines_transcript.specs.Transcribed.{journal_text}
pub use Rattle.seat_set.specs.Laws.{unplayed}

-- the transcript of what was played, and behind it how it ends
abbrev pub closed : Limits → Play → Answer → Answer
closed limits play end = with_front (journal_text limits.store play.journal) end

-- the entries that are counted where a line met a journal that is full for it
abbrev pub full_at : Played → Option ℕ
full_at p = if p.is_full then Some (number_counted p.play.journal) else None

-- what a line that was played makes of the answer for the lines after it, which `rest` gives after
-- what was played
abbrev pub by_played : Limits → Played → (Play → Answer) → Answer
by_played limits p rest =
    if p.is_full then closed limits p.play (ending (last.Full (number_counted p.play.journal)))
    else rest p.play

-- what a line is after the header, where the line before came at this moment: a moment doesn't fall
abbrev pub meaning_of_line : ℕ → Option Line → Meaning
meaning_of_line moment (Some (line.Session found)) = meaning.Play unstamped found
meaning_of_line moment (Some (line.Stamped stamp found)) =
    if nat_lt stamp.moment moment then meaning.Bad else meaning.Play stamp found
meaning_of_line moment (Some line.End) = meaning.End
meaning_of_line moment _ = meaning.Bad

unfoldable pub meaning_of : Stage → List ℕ → Meaning
meaning_of stage raw = meaning_of_line stage.moment (line_of stage.form raw)

-- what a line after so many lines makes of it; `rest` goes on with its stamp
abbrev pub by_meaning : Limits → ℕ → Play → Meaning → (Stamp → Play → Answer) → Answer
by_meaning limits n play (meaning.Play stamp found) rest =
    by_played limits (line_played limits found play) (rest stamp)
by_meaning limits n play meaning.End rest =
    closed limits play (ending (last.End (length play.journal)))
by_meaning limits n play meaning.Bad rest = closed limits play (ending (last.Bad (n + 1)))

-- the next line comes after one with this stamp
abbrev pub next_stage : Stage → Stamp → Stage
next_stage stage stamp = record stage { moment = stamp.moment }

-- the answer for the lines that are left after so many, from what they played
unfoldable pub session_from : Limits → Bool → ℕ → Stage → Play → List (List ℕ) → Answer
session_from limits cut n stage play [] = closed limits play (without_end cut n)
session_from limits cut n stage play (raw ∷ lines) =
    by_meaning limits n play (meaning_of stage raw)
    (λ stamp next. session_from limits cut (n + 1) (next_stage stage stamp) next lines)

-- the limits that a line sets, if it is a header
abbrev pub header_of_line : Option Line → Option Limits
header_of_line (Some (line.Header limits)) = Some limits
header_of_line _ = None

unfoldable pub header_of : Form → List ℕ → Option Limits
header_of form raw = header_of_line (line_of form raw)

-- the form and the limits by a header of form 1, or of form 2
abbrev pub opening_by : Option Limits → Option Limits → Option Opening
opening_by (Some limits) other = Some (record { form = Session; limits = limits })
opening_by None (Some limits) = Some (record { form = Session2; limits = limits })
opening_by None None = None

-- those that a line sets, if it is a header
abbrev pub opening_of : List ℕ → Option Opening
opening_of raw = opening_by (header_of Session raw) (header_of Session2 raw)

-- the first line after a header
abbrev pub first_stage : Form → Stage
first_stage form = record { form = form; moment = 0 }

-- the answer for the lines after the first, which has to be a header
abbrev pub by_opening : Bool → Option Opening → List (List ℕ) → Answer
by_opening cut None lines = ending (last.Bad 1)
by_opening cut (Some opening) lines =
    session_from opening.limits cut 1 (first_stage opening.form) unplayed lines

abbrev pub session_of_lines : Bool → List (List ℕ) → Answer
session_of_lines cut [] = without_end cut 0
session_of_lines cut (raw ∷ lines) = by_opening cut (opening_of raw) lines

-- the answer for a session of which at most the limit was read
unfoldable pub session_answer : Bool → List ℕ → Answer
session_answer cut input = session_of_lines cut (lines_of cut input)
