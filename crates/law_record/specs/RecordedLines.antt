-- The lines of a recorded session, and what is read of them.
use Rattle.std.specs.Prelude.{◌≡◌, ℕ, List, [], ◌∷◌, ◌++◌, Bool, Some, codes, map}
use Rattle.std.specs.List.{AllByRecursion}
use Rattle.broker_steps.specs.declared.limits.Limits.{Limits}
use Rattle.broker_steps.specs.declared.stamp.Stamp.{Stamp}
use Rattle.session_text.specs.declared.line.Form.TheVariants.{Session2}
use Rattle.session_text.specs.declared.line.Line.TheVariants.{Header, Stamped}
use Rattle.session_text.specs.declared.line.SessionLine.{SessionLine}
use Rattle.session_text.specs.Grammar.{spelling}
use Rattle.session_text.specs.Reading.{line_of}
use Rattle.broker_model.specs.declared.journal.Entry.{Entry}
use Rattle.serve_record.specs.Recorded.{entry_lines}
use Rattle.program_run.specs.Lines.{lines_of}
use Rattle.program_run.specs.Replayed.{session_lines}
use Rattle.program_run.specs.Session.{first_stage, opening_of}

-- a line of a session with its stamp
abbrev pub StampedLine : Type 0
StampedLine = Stamp × SessionLine

-- the lines of a journal's steps, the oldest first, each with its entry's stamp
abbrev pub lines_in : List Entry → List Stamp → List StampedLine
lines_in (e ∷ older) (s ∷ before) =
    lines_in older before ++ map (λ (line : SessionLine). (s, line)) (entry_lines e)
lines_in _ _ = []

-- such a line in form 2, without its line feed
abbrev pub spelled : StampedLine → List ℕ
spelled l = spelling Session2 (Stamped l.0 l.1)

-- the header of form 2
abbrev pub header : Limits → List ℕ
header limits = spelling Session2 (Header limits)

-- without their stamps
abbrev pub played_lines : List StampedLine → List SessionLine
played_lines all = map (λ (l : StampedLine). l.1) all

-- it is spelled as a line that reads as it
abbrev pub IsReadBack : StampedLine → Type 0
IsReadBack l = line_of Session2 (spelled l) ≡ Some (Stamped l.0 l.1)

-- The text is read as these lines: behind a header with the limits each of them with its stamp, all
-- of them are played, and then the session ends.
pub record IsReadAs (limits : Limits) (text : List ℕ) (all : List StampedLine) : Type 0 where
  pub lines : (cut : Bool) →
      lines_of cut text ≡ header limits ∷ (map spelled all ++ codes "end" ∷ [])
  pub opening : opening_of (header limits) ≡ Some (record { form = Session2; limits = limits })
  pub read_back : AllByRecursion IsReadBack all
  pub played : session_lines (first_stage Session2) (map spelled all ++ codes "end" ∷ [])
      ≡ played_lines all
