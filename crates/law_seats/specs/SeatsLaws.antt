-- The laws of several seats: each is told what a session of its lines alone is told, and no other
-- shows on it.
use Rattle.std.specs.Prelude.{◌≡◌, ℕ, ◌≤◌, List, [], ◌∷◌, codes, Some}
use Rattle.session_text.specs.declared.seat_line.SeatsHeader.{SeatsHeader}
use Rattle.session_text.specs.SeatLines.{seats_header_of}
use Rattle.lines_transcript.specs.Printed.{IsFront}
use Rattle.program_run.specs.declared.reading.TheConstants.{INPUT_LIMIT}
use Rattle.program_run.specs.declared.status.Status.{Status}
use Rattle.program_run.specs.declared.status.Status.TheVariants as status
use Rattle.program_run.specs.Lines.{lines_read}
use Rattle.program_run.specs.Migrates.{replay}
use Rattle.program_run.specs.Run.{status_of, output_of}
use Rattle.law_seats.specs.SeatTexts.{given, session_for, told_to}

-- the words of the command
abbrev pub replay_seats : List (List ℕ)
replay_seats = codes "replay-seats" ∷ []

-- the lines that are read of an input are a header and these behind it
pub record IsHeaded (input : List ℕ) (header : SeatsHeader) (lines : List (List ℕ)) : Type 0 where
  pub first : List ℕ
  pub read : lines_read INPUT_LIMIT input ≡ first ∷ lines
  pub is : seats_header_of first ≡ Some header

-- the input was played to its line `end`
abbrev pub IsPlayedOut : Status → Type 0
IsPlayedOut status.Ok = Unit {0}
IsPlayedOut status.JournalFull = Unit {0}
IsPlayedOut _ = ⊥

-- it is all of the text where the input was played to its `end`, and else a front of it
abbrev pub IsAsFarAs : Status → List ℕ → List ℕ → Type 0
IsAsFarAs status.Ok told text = told ≡ text
IsAsFarAs status.JournalFull told text = told ≡ text
IsAsFarAs _ told text = IsFront told text

-- what each seat is told is what a replay of its own session writes, as far as the input was played
abbrev pub SeatsAreToldAlone : Type 0
SeatsAreToldAlone =
    (input : List ℕ) (header : SeatsHeader) (lines : List (List ℕ)) (seat : ℕ) →
    IsHeaded input header lines
    → 1 ≤ seat → seat ≤ header.count
    → IsAsFarAs (status_of replay_seats input) (told_to seat (output_of replay_seats input))
    (output_of replay (session_for header.limits seat lines))

-- Of two inputs with the same limits that give a seat the same lines, the one is played to its
-- `end`: the other tells it the same, as far as it was played.
abbrev pub SeatsAreIsolated : Type 0
SeatsAreIsolated =
    (one other : List ℕ) (header header' : SeatsHeader) (lines lines' : List (List ℕ)) (seat : ℕ)
    → IsHeaded one header lines → IsHeaded other header' lines' → header.limits ≡ header'.limits
    → 1 ≤ seat → seat ≤ header.count → seat ≤ header'.count
    → IsPlayedOut (status_of replay_seats one) → given seat lines ≡ given seat lines'
    → IsAsFarAs (status_of replay_seats other) (told_to seat (output_of replay_seats other))
    (told_to seat (output_of replay_seats one))
