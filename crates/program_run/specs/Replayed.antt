-- What a replay writes is the transcript of the journal that the lines of its session played.
use Rattle.std.specs.Prelude.{◌≡◌, ℕ, List, [], ◌∷◌, Bool, Some}
use Rattle.broker_steps.specs.declared.limits.Limits.{Limits}
use Rattle.broker_steps.specs.declared.stamp.Stamp.{Stamp}
use Rattle.session_text.specs.declared.line.SessionLine.{SessionLine}
use Rattle.broker_model.specs.Settle.{history, outer}
use Rattle.seat_set.specs.Laws.{lines_played}
use Rattle.seat_set.specs.Played.{Play}
use Rattle.program_run.specs.declared.last_line.LastLine.{LastLine}
use Rattle.program_run.specs.declared.session_line.Meaning.{Meaning}
use Rattle.program_run.specs.declared.session_line.Meaning.TheVariants as meaning
use Rattle.program_run.specs.declared.session_line.Opening.{Opening}
use Rattle.program_run.specs.declared.session_line.Stage.{Stage}
use Rattle.program_run.specs.Endings.{Answer, ending}
use Rattle.program_run.specs.Session.{closed, first_stage, meaning_of, next_stage, opening_of, session_of_lines, unplayed}

-- what a line adds to the lines that are played; `rest` gives those after it from its stamp
abbrev pub lines_by : Meaning → (Stamp → List SessionLine) → List SessionLine
lines_by (meaning.Play stamp found) rest = found ∷ rest stamp
lines_by meaning.End rest = []
lines_by meaning.Bad rest = []

-- the lines of a session behind its header, up to the first that ends it or is none
abbrev pub session_lines : Stage → List (List ℕ) → List SessionLine
session_lines stage [] = []
session_lines stage (raw ∷ lines) =
    lines_by (meaning_of stage raw) (λ stamp. session_lines (next_stage stage stamp) lines)

-- the answer is the transcript of what was played, which is the history of its outer steps, and a
-- last line
pub record IsReplayed (limits : Limits) (play : Play) (answer : Answer) : Type 0 where
  pub end : LastLine
  pub is : answer ≡ closed limits play (ending end)
  pub history : history limits.store (outer play.journal) ≡ play.journal

-- each session whose first line is a header is answered so by its lines
abbrev pub SessionsAreReplayed : Type 0
SessionsAreReplayed =
    (cut : Bool) (opening : Opening) (first : List ℕ) (more : List (List ℕ)) →
    opening_of first ≡ Some opening →
    IsReplayed opening.limits
    (lines_played opening.limits (session_lines (first_stage opening.form) more) unplayed).play
    (session_of_lines cut (first ∷ more))
