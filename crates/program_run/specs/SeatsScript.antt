-- Several seats as far as they are played.
use Rattle.std.specs.Prelude.{◌≡◌, ℕ, ◌≤◌, Bool, List, ◌++◌, length, Option, Some, None, string_bytes}
use Rattle.seat_set.specs.Seats.{Seats}
use Rattle.program_run.specs.declared.seats.SeatsPlay.{SeatsPlay}
use Rattle.program_run.specs.Endings.{Answer, with_front}
use Rattle.program_run.specs.Seats.{seats_from, seats_of_lines}

-- the answer for the lines that are left after so many, before the header and behind it
abbrev pub left_for : Option Seats → Bool → ℕ → List (List ℕ) → Answer
left_for None cut n lines = seats_of_lines cut lines
left_for (Some set) cut n lines = seats_from cut n set.seats lines

-- before the header no line came; behind it there are no more than eight seats
abbrev pub IsOpened : Option Seats → ℕ → Type 0
IsOpened None before = before ≡ 0
IsOpened (Some set) before = length set.seats ≤ 8

-- the output of these lines stands before every answer for them and others
pub record SeatsStand (play : SeatsPlay) (done : List (List ℕ)) (output : List ℕ) : Type 0 where
  pub count : play.before ≡ length done
  pub opened : IsOpened play.set play.before
  pub goes_on : (cut : Bool) (more : List (List ℕ))
      → seats_of_lines cut (done ++ more)
      ≡ with_front output (left_for play.set cut play.before more)

-- the lines that were gathered since the buffer was cleared
abbrev pub seats_text : SeatsPlay → List ℕ
seats_text play = string_bytes play.text
