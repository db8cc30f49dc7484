-- A session as far as it is explained.
use Rattle.std.specs.Prelude.{◌≡◌, ℕ, Bool, false, List, [], ◌++◌, length, Option, None, Some}
use Rattle.seat_set.specs.Playing.{Playing}
use Rattle.lines_explained.specs.declared.explainer.Lines.{Lines}
use Rattle.lines_explained.specs.Explained.{Explaining, blank}
use Rattle.lines_explained.specs.Journals.{journal_lines, at_rest}
use Rattle.program_run.specs.declared.session_line.Stage.{Stage}
use Rattle.program_run.specs.Explain.{explain_from, explain_of_lines}

-- the lines of what a player played are the output so far, and stand before every answer for these
-- lines and others, of which the next is read at this stage
pub record ExplainerStands (which : Lines) (stage : Stage) (player : Playing) (before : ℕ)
    (done : List (List ℕ)) (output : List ℕ) :
    Type 0 where
  pub unspent : player.is_spent ≡ false
  pub count : before ≡ length done
  pub said : output ≡ journal_lines which player.limits.store player.play.journal
  pub goes_on : (cut : Bool) (more : List (List ℕ))
      → explain_of_lines which cut (done ++ more)
      ≡ explain_from which player.limits cut before stage player.play more

-- the explainer is at rest behind what a player played, with so much text
abbrev pub ExplainerHolds : Lines → Playing → Explaining → List ℕ → Type 0
ExplainerHolds which player explainer gathered =
    explainer ≡ at_rest which player.play.journal gathered

-- before its header and behind it
abbrev pub ExplainStandsBy : Lines → Stage → Option Playing → ℕ → List (List ℕ) → List ℕ → Type 0
ExplainStandsBy which stage None before done output =
    (before ≡ 0) × (done ≡ []) × (output ≡ [])
ExplainStandsBy which stage (Some player) before done output =
    ExplainerStands which stage player before done output

-- before its header nothing is gathered
abbrev pub ExplainHoldsBy : Lines → Option Playing → Explaining → List ℕ → Type 0
ExplainHoldsBy which None explainer gathered = (explainer ≡ blank which) × (gathered ≡ [])
ExplainHoldsBy which (Some player) explainer gathered =
    ExplainerHolds which player explainer gathered
