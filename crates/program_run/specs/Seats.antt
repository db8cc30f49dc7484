-- What is written for the lines of several seats, and the status.
use Rattle.std.specs.Prelude.{ℕ, ◌+◌, Bool, false, ◌||◌, if◌then◌else◌, List, [], ◌∷◌, ◌++◌, length, replicate, Option, Some, None, is_some}
use Rattle.session_text.specs.declared.seat_line.SeatsHeader.{SeatsHeader}
use Rattle.session_text.specs.declared.seat_line.SeatsLine.{SeatsLine}
use Rattle.session_text.specs.declared.seat_line.SeatsLine.TheVariants as said
use Rattle.session_text.specs.SeatLines.{seats_header_of, seats_line_of}
use Rattle.lines_transcript.specs.Seats.{seat_end_line, seat_full_line}
use Rattle.broker_model.specs.declared.journal.Kept.{Kept}
use Rattle.seat_set.specs.Seats.{Seat, fresh, seats_after, seats_said}
use Rattle.program_run.specs.declared.last_line.LastLine.{LastLine}
use Rattle.program_run.specs.declared.last_line.LastLine.TheVariants as last
use Rattle.program_run.specs.Lines.{lines_of}
use Rattle.program_run.specs.Endings.{Answer, with_front, ending, without_end}

-- the last line of a seat: how many entries it has, or how many were counted where a step met its
-- journal full
abbrev pub seat_ending : ℕ → ℕ → Option Kept → List ℕ
seat_ending number entries None = seat_end_line number entries
seat_ending number entries (Some kept) = seat_full_line number kept.entries

-- the last lines of seats, of which the first has this number
abbrev pub seats_endings : ℕ → List Seat → List ℕ
seats_endings number [] = []
seats_endings number (seat ∷ rest) =
    seat_ending number (length seat.play.journal) seat.full ++ seats_endings (number + 1) rest

-- the journal of a seat was full
abbrev pub some_full : List Seat → Bool
some_full [] = false
some_full (seat ∷ rest) = is_some seat.full || some_full rest

-- how the output ends with the line `end`
abbrev pub seats_last : List Seat → LastLine
seats_last seats = if some_full seats then last.OverFull else last.Over

-- what a line after so many makes of the answer for those after it, which `rest` gives after what
-- was played
abbrev pub by_seats_line : ℕ → List Seat → Option SeatsLine → (List Seat → Answer) → Answer
by_seats_line n seats None rest = ending (last.Bad (n + 1))
by_seats_line n seats (Some said.End) rest =
    with_front (seats_endings 1 seats) (ending (seats_last seats))
by_seats_line n seats (Some (said.Seat line)) rest =
    with_front (seats_said line 1 seats) (rest (seats_after line 1 seats))

-- the answer for the lines that are left after so many, from what was played on the seats
unfoldable pub seats_from : Bool → ℕ → List Seat → List (List ℕ) → Answer
seats_from cut n seats [] = without_end cut n
seats_from cut n seats (raw ∷ lines) =
    by_seats_line n seats (seats_line_of (length seats) raw)
    (λ next. seats_from cut (n + 1) next lines)

-- so many seats on which nothing was played
abbrev pub fresh_seats : SeatsHeader → List Seat
fresh_seats header = replicate header.count (fresh header.limits)

-- the answer for the lines after the first, which has to be a header
abbrev pub by_seats_header : Bool → Option SeatsHeader → List (List ℕ) → Answer
by_seats_header cut None lines = ending (last.Bad 1)
by_seats_header cut (Some header) lines = seats_from cut 1 (fresh_seats header) lines

abbrev pub seats_of_lines : Bool → List (List ℕ) → Answer
seats_of_lines cut [] = without_end cut 0
seats_of_lines cut (raw ∷ lines) = by_seats_header cut (seats_header_of raw) lines

-- the answer for an input of several seats of which at most the limit was read
unfoldable pub seats_answer : Bool → List ℕ → Answer
seats_answer cut input = seats_of_lines cut (lines_of cut input)
