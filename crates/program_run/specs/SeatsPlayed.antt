-- What one line of several seats comes to, by what it reads as.
use Rattle.std.specs.Prelude.{◌≡◌, ℕ, ◌+◌, List, ◌++◌, Option, Some, None}
use Rattle.session_text.specs.declared.seat_line.SeatsLine.{SeatsLine}
use Rattle.session_text.specs.declared.seat_line.SeatsLine.TheVariants as said
use Rattle.seat_set.specs.Seats.{Seat, seats_after, seats_said}
use Rattle.program_run.specs.declared.last_line.LastLine.{LastLine}
use Rattle.program_run.specs.declared.last_line.LastLine.TheVariants as last
use Rattle.program_run.specs.Seats.{seats_endings, seats_last}

-- The seats and the text after a line behind so many, and how the output ends with it, if it does.
-- The last lines of the seats, or what was played, stand behind the text.
abbrev pub IsSeatsLinePlayed : ℕ → Option SeatsLine → (seats seats_after : List Seat) →
    (text text_after : List ℕ)
    → Option LastLine → Type 0
IsSeatsLinePlayed n None seats after text text_after end =
    (end ≡ Some (last.Bad (n + 1))) × (after ≡ seats) × (text_after ≡ text)
IsSeatsLinePlayed n (Some said.End) seats after text text_after end =
    (end ≡ Some (seats_last seats)) × (after ≡ seats) × (text_after ≡ text ++ seats_endings 1 seats)
IsSeatsLinePlayed n (Some (said.Seat line)) seats after text text_after end =
    (end ≡ None) × (after ≡ seats_after line 1 seats)
    × (text_after ≡ text ++ seats_said line 1 seats)
