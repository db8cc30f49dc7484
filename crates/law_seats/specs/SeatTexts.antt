-- What an input of several seats gives one of them, and what the output tells it.
use Rattle.std.specs.Prelude.{ℕ, ◌==◌, nat_le, false, if◌then◌else◌, List, [], ◌∷◌, ◌++◌, length, codes, Option, Some, None}
use Rattle.std.specs.Str.{bytes_eq}
use Rattle.broker_steps.specs.declared.limits.Limits.{Limits}
use Rattle.session_text.specs.declared.line.Form.TheVariants.{Session}
use Rattle.session_text.specs.declared.line.Line.TheVariants as line
use Rattle.session_text.specs.Grammar.{spelling}
use Rattle.session_text.specs.Reading.{line_limit}
use Rattle.lines_transcript.specs.Seats.{seat_mark}
use Rattle.program_run.specs.Lines.{lines_of, bytes_of}

-- what stands behind the front, if the bytes begin with it
abbrev pub behind : List ℕ → List ℕ → Option (List ℕ)
behind [] bytes = Some bytes
behind (x ∷ front) [] = None
behind (x ∷ front) (b ∷ bytes) = if b == x then behind front bytes else None

-- the first of two, if it is there
abbrev pub either_line : Option (List ℕ) → Option (List ℕ) → Option (List ℕ)
either_line (Some line) other = Some line
either_line None other = other

-- the line of a session that a line gives the seat with the number: it stands behind that number or
-- behind `all`. A line of more bytes than a line may have gives none
abbrev pub gives : ℕ → List ℕ → Option (List ℕ)
gives seat raw =
    if nat_le (length raw) line_limit
    then either_line (behind (seat_mark seat) raw) (behind (codes "all ") raw) else None

-- a line before others, if it is there
abbrev pub with_line : Option (List ℕ) → List (List ℕ) → List (List ℕ)
with_line None lines = lines
with_line (Some line) lines = line ∷ lines

-- all that these lines give the seat, up to the line `end`
abbrev pub given : ℕ → List (List ℕ) → List (List ℕ)
given seat [] = []
given seat (raw ∷ lines) =
    if bytes_eq raw (codes "end") then [] else with_line (gives seat raw) (given seat lines)

-- the session of the seat, as its lines: a header of form 1 with the limits of each seat, what it
-- is given, and `end`
abbrev pub session_lines : Limits → ℕ → List (List ℕ) → List (List ℕ)
session_lines limits seat lines =
    spelling Session (line.Header limits) ∷ (given seat lines ++ codes "end" ∷ [])

-- as bytes
abbrev pub session_for : Limits → ℕ → List (List ℕ) → List ℕ
session_for limits seat lines = bytes_of (session_lines limits seat lines)

-- of these lines those that begin with the seat's number, without it
abbrev pub told_lines : ℕ → List (List ℕ) → List (List ℕ)
told_lines seat [] = []
told_lines seat (line ∷ lines) = with_line (behind (seat_mark seat) line) (told_lines seat lines)

-- what an output tells the seat
unfoldable pub told_to : ℕ → List ℕ → List ℕ
told_to seat output = bytes_of (told_lines seat (lines_of false output))
