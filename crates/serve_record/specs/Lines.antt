-- The lines of a recorded session
use Rattle.std.specs.Prelude.{◌≡◌, ◌≢◌, ◌≤◌, ℕ, List, [], ◌∷◌, ◌++◌, drop, Option, Some, None, IfSome, Result, Err, OnOk, OnErr}
use Rattle.std.specs.List.{flat_map}
use Rattle.std.specs.Io.KnownBytes.{Appends}
use Rattle.wio_core.specs.Io.{Rose}
use Rattle.broker_steps.specs.declared.limits.Limits.{Limits}
use Rattle.broker_steps.specs.declared.stamp.Stamp.{Stamp}
use Rattle.broker_steps.specs.declared.step.Step.{Step}
use Rattle.broker_steps.specs.Ranges.{IsStep}
use Rattle.session_text.specs.declared.line.Line.TheVariants.{Header, Stamped}
use Rattle.session_text.specs.declared.line.SessionLine.{SessionLine}
use Rattle.session_text.specs.Steps.{step_line}
use Rattle.broker_model.specs.declared.journal.Entry.{Entry}
use Rattle.broker_model.specs.Recorded.{entry_at}
use Rattle.serve_record.specs.Recorded.{text_line, steps_text, entry_lines}

-- the line of a step, if there is one
abbrev pub lines_of : Option Step → List SessionLine
lines_of None = []
lines_of (Some step) = step_line step ∷ []

-- a step that a line can give, if there is one
abbrev pub FitsIfAny : Option Step → Type 0
FitsIfAny step = IfSome step IsStep

-- a line behind its stamp, with its line feed
abbrev pub stamped_text : Stamp → SessionLine → List ℕ
stamped_text stamp line = text_line (Stamped stamp line)

-- the lines of an entry behind its stamp, if both are there
abbrev pub lines_text : Option Entry → Option Stamp → List ℕ
lines_text (Some e) (Some s) = flat_map (stamped_text s) (entry_lines e)
lines_text _ _ = []

-- the lines of the entry with the number
abbrev pub text_at : List Entry → List Stamp → (number : ℕ) → List ℕ
text_at journal stamps number = lines_text (entry_at journal number) (entry_at stamps number)

-- the header, and the lines of all but the newest so many steps
abbrev pub text_without : Limits → (newest : ℕ) → List Entry → List Stamp → List ℕ
text_without limits newest journal stamps =
    text_line (Header limits) ++ steps_text (drop newest journal) (drop newest stamps)

-- a sink gained some bytes, and with those that wait they are this text
abbrev pub Holds : (held held_after : Option (List ℕ)) → (waiting text : List ℕ) → Type 0
Holds held held_after waiting text =
    (written : List ℕ) × Appends held held_after written × (written ++ waiting ≡ text)

-- a sink gained some bytes with which this text begins
abbrev pub GainsFront : (held held_after : Option (List ℕ)) → (text : List ℕ) → Type 0
GainsFront held held_after text =
    (written : List ℕ) × (rest : List ℕ) × Appends held held_after written
    × (written ++ rest ≡ text)

-- what a call made of a sink: at `Ok` it gained this text but for what waits, else a front of it; its
-- count of faults never fell, this answer came of one, and no other answer did
pub record Gains {S T E : Type 0} (held : S → Option (List ℕ)) (faults : S → ℕ) (old new : S)
    (waiting text : List ℕ) (fault : E) (r : Result T E) : Type 0 where
  pub whole : OnOk r (Holds (held old) (held new) waiting text)
  pub front : OnErr r (GainsFront (held old) (held new) text)
  pub never_falls : faults old ≤ faults new
  pub cause : r ≡ Err fault → Rose (faults old) (faults new)
  pub no_fault : r ≢ Err fault → faults new ≡ faults old
