-- A session of form 1 that is written as one of form 2, and the status.
use Rattle.std.specs.Prelude.{ℕ, ◌+◌, Bool, List, [], ◌∷◌, ◌++◌, codes, Option, Some, None}
use Rattle.broker_steps.specs.declared.limits.Limits.{Limits}
use Rattle.session_text.specs.declared.line.Form.TheVariants.{Session, Session2}
use Rattle.session_text.specs.declared.line.Line.TheVariants as line
use Rattle.session_text.specs.Grammar.{spelling}
use Rattle.program_run.specs.declared.last_line.LastLine.{LastLine}
use Rattle.program_run.specs.declared.last_line.LastLine.TheVariants as last
use Rattle.program_run.specs.declared.session_line.Meaning.{Meaning}
use Rattle.program_run.specs.declared.session_line.Meaning.TheVariants as meaning
use Rattle.program_run.specs.Lines.{lines_of}
use Rattle.program_run.specs.Endings.{Answer, with_front, ending, without_end}
use Rattle.program_run.specs.Session.{meaning_of, first_stage, header_of}

-- a line in form 2, with its line feed: of its moment and its author nothing is known
abbrev pub migrated_line : List ℕ → List ℕ
migrated_line raw = codes "0 0 " ++ (raw ++ 10 ∷ [])

-- the header in form 2, with its line feed
abbrev pub migrated_header : Limits → List ℕ
migrated_header limits = spelling Session2 (line.Header limits) ++ 10 ∷ []

-- how the output ends with a line after so many, if it does
abbrev pub migrated_end : ℕ → Meaning → Option LastLine
migrated_end n (meaning.Play stamp found) = None
migrated_end n meaning.End = Some last.Over
migrated_end n meaning.Bad = Some (last.Bad (n + 1))

-- what is written of a line before the output ends with it
abbrev pub line_text : List ℕ → Option LastLine → List ℕ
line_text raw None = migrated_line raw
line_text raw (Some end) = []

-- what a line makes of the answer for the lines after it
abbrev pub by_migrated : List ℕ → Option LastLine → Answer → Answer
by_migrated raw None rest = with_front (migrated_line raw) rest
by_migrated raw (Some end) rest = ending end

-- the answer for the lines that are left after so many
unfoldable pub migrated_from : Bool → ℕ → List (List ℕ) → Answer
migrated_from cut n [] = without_end cut n
migrated_from cut n (raw ∷ lines) =
    by_migrated raw (migrated_end n (meaning_of (first_stage Session) raw))
    (migrated_from cut (n + 1) lines)

-- the answer for the lines after the first, which has to be a header of form 1
abbrev pub by_old_header : Bool → Option Limits → List (List ℕ) → Answer
by_old_header cut None lines = ending (last.Bad 1)
by_old_header cut (Some limits) lines =
    with_front (migrated_header limits) (migrated_from cut 1 lines)

abbrev pub migrated_lines : Bool → List (List ℕ) → Answer
migrated_lines cut [] = without_end cut 0
migrated_lines cut (raw ∷ lines) = by_old_header cut (header_of Session raw) lines

-- the answer for a session of which at most the limit was read
unfoldable pub migrated_answer : Bool → List ℕ → Answer
migrated_answer cut input = migrated_lines cut (lines_of cut input)
