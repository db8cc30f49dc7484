-- Several seats side by side: what a line does to each, and what the transcript has more of it.
use Rattle.std.specs.Prelude.{ℕ, ◌+◌, ◌==◌, List, [], ◌∷◌, ◌++◌, length, Bool, true, if◌then◌else◌, Option, Some, None, is_some}
use Rattle.broker_steps.specs.declared.limits.Limits.{Limits}
use Rattle.session_text.specs.declared.line.SessionLine.{SessionLine}
use Rattle.session_text.specs.declared.seat_line.SeatLine.{SeatLine}
use Rattle.session_text.specs.declared.seat_line.SeatLine.TheVariants.{One, All}
use Rattle.lines_transcript.specs.Seats.{seat_lines}
use Rattle.broker_model.specs.declared.journal.Kept.{Kept}
use Rattle.broker_core.specs.Broker.{kept_in}
use Rattle.lines_transcript.specs.Transcribed.{text_since}
use Rattle.seat_set.specs.declared.session.Stop.{Stop}
use Rattle.seat_set.specs.declared.session.Stop.TheVariants as stops
use Rattle.seat_set.specs.Laws.{unplayed}
use Rattle.seat_set.specs.Played.{Play, Played, line_played}
use Rattle.seat_set.specs.Playing.{Playing}

-- a seat: what is allowed on it, what was played, and how much its journal held where a step met it
-- full. Of a seat that is full no unread bytes are kept
pub record Seat : Type 0 where
  pub limits : Limits
  pub play : Play
  pub full : Option Kept

-- what the callers of a set see: its seats from 1 on, and whether it is spent for want of memory
pub record Seats : Type 0 where
  pub seats : List Seat
  pub is_spent : Bool

-- a seat on which nothing was played
abbrev pub fresh : Limits → Seat
fresh limits = record { limits = limits; play = unplayed; full = None }

-- a journal without unread bytes
abbrev pub forgotten : Play → Play
forgotten play = record { journal = play.journal; unread = [] }

-- where a line led that was played
abbrev pub seat_by : Limits → Played → Seat
seat_by limits p =
    (if p.is_full
    then record { limits = limits; play = forgotten p.play; full = Some (kept_in p.play.journal) }
    else record { limits = limits; play = p.play; full = None })

-- one seat after a line; one that is full plays nothing more
abbrev pub seat_after : SessionLine → Seat → Seat
seat_after line seat =
    (if is_some seat.full then seat
    else seat_by seat.limits (line_played seat.limits line seat.play))

-- what its transcript has more after the line
abbrev pub seat_said : SessionLine → Seat → List ℕ
seat_said line seat =
    text_since seat.limits.store (length seat.play.journal) (seat_after line seat).play.journal

-- the seat with the number is given the line
abbrev pub is_for : SeatLine → ℕ → Bool
is_for (One seat line) number = seat == number
is_for (All line) number = true

-- the line that it is given
abbrev pub line_in : SeatLine → SessionLine
line_in (One seat line) = line
line_in (All line) = line

-- seats after a line, of which the first has this number
abbrev pub seats_after : SeatLine → ℕ → List Seat → List Seat
seats_after line number [] = []
seats_after line number (seat ∷ rest) =
    (if is_for line number then seat_after (line_in line) seat else seat)
    ∷ seats_after line (number + 1) rest

-- what the transcript of the seats has more after the line, of which the first has this number
abbrev pub seats_said : SeatLine → ℕ → List Seat → List ℕ
seats_said line number [] = []
seats_said line number (seat ∷ rest) =
    (if is_for line number then seat_lines number (seat_said (line_in line) seat) else [])
    ++ seats_said line (number + 1) rest

-- what was played, if a seat with this player's reason to stop goes on from it
abbrev pub play_left : Option Stop → Play → Play
play_left (Some (stops.Full kept)) play = forgotten play
play_left _ play = play

abbrev pub full_by : Option Stop → Option Kept
full_by (Some (stops.Full kept)) = Some kept
full_by _ = None

-- the seat of a player that stopped for this reason, or goes on
abbrev pub seat_of : Playing → Option Stop → Seat
seat_of player stopped =
    record { limits = player.limits; play = play_left stopped player.play; full = full_by stopped }
