-- What `explain` writes for the lines of a session: it ends as `replay` does, and has the line of
-- each entry in the place of its transcript.
use Rattle.std.specs.Prelude.{ℕ, ◌+◌, Bool, if◌then◌else◌, List, [], ◌∷◌, length, Option, Some, None}
use Rattle.broker_steps.specs.declared.stamp.Stamp.{Stamp}
use Rattle.broker_steps.specs.declared.limits.Limits.{Limits}
use Rattle.broker_model.specs.Limits.{number_counted}
use Rattle.seat_set.specs.Played.{Play, Played, line_played}
use Rattle.lines_explained.specs.declared.explainer.Lines.{Lines}
use Rattle.lines_explained.specs.Journals.{journal_lines}
use Rattle.program_run.specs.declared.last_line.LastLine.TheVariants as last
use Rattle.program_run.specs.declared.session_line.Meaning.{Meaning}
use Rattle.program_run.specs.declared.session_line.Meaning.TheVariants as meaning
use Rattle.program_run.specs.declared.session_line.Opening.{Opening}
use Rattle.program_run.specs.declared.session_line.Stage.{Stage}
use Rattle.program_run.specs.Endings.{Answer, with_front, ending, without_end}
use Rattle.program_run.specs.Lines.{lines_of}
use Rattle.program_run.specs.Session.{meaning_of, next_stage, unplayed, opening_of, first_stage}

-- the lines of what was played, and behind them how it ends
abbrev pub explained : Lines → Limits → Play → Answer → Answer
explained which limits play end = with_front (journal_lines which limits.store play.journal) end

-- what a line that was played makes of the answer for the lines after it, which `rest` gives after
-- what was played
abbrev pub by_played : Lines → Limits → Played → (Play → Answer) → Answer
by_played which limits p rest =
    if p.is_full
    then explained which limits p.play (ending (last.Full (number_counted p.play.journal)))
    else rest p.play

-- what a line after so many lines makes of it; `rest` goes on with its stamp
abbrev pub by_meaning : Lines → Limits → ℕ → Play → Meaning → (Stamp → Play → Answer) → Answer
by_meaning which limits n play (meaning.Play stamp found) rest =
    by_played which limits (line_played limits found play) (rest stamp)
by_meaning which limits n play meaning.End rest =
    explained which limits play (ending (last.End (length play.journal)))
by_meaning which limits n play meaning.Bad rest =
    explained which limits play (ending (last.Bad (n + 1)))

-- the answer for the lines that are left after so many, from what they played
unfoldable pub explain_from : Lines → Limits → Bool → ℕ → Stage → Play → List (List ℕ) → Answer
explain_from which limits cut n stage play [] = explained which limits play (without_end cut n)
explain_from which limits cut n stage play (raw ∷ lines) =
    by_meaning which limits n play (meaning_of stage raw)
    (λ stamp next. explain_from which limits cut (n + 1) (next_stage stage stamp) next lines)

-- the answer for the lines after the first, which has to be a header
abbrev pub by_opening : Lines → Bool → Option Opening → List (List ℕ) → Answer
by_opening which cut None lines = ending (last.Bad 1)
by_opening which cut (Some opening) lines =
    explain_from which opening.limits cut 1 (first_stage opening.form) unplayed lines

-- the answer for the lines of a session
abbrev pub explain_of_lines : Lines → Bool → List (List ℕ) → Answer
explain_of_lines which cut [] = without_end cut 0
explain_of_lines which cut (raw ∷ lines) = by_opening which cut (opening_of raw) lines

-- the answer for a session of which at most the limit was read
unfoldable pub explain_answer : Lines → Bool → List ℕ → Answer
explain_answer which cut input = explain_of_lines which cut (lines_of cut input)
