-- The law of several seats where only a front of the output is written.
use Rattle.std.specs.Prelude.{ℕ, ◌≤◌, ◌==◌, if◌then◌else◌, List, [], ◌∷◌, take}
use Rattle.std.specs.List.{list_any}
use Rattle.session_text.specs.declared.seat_line.SeatsHeader.{SeatsHeader}
use Rattle.lines_transcript.specs.Printed.{IsFront}
use Rattle.program_run.specs.Migrates.{replay}
use Rattle.program_run.specs.Run.{output_of}
use Rattle.law_seats.specs.SeatTexts.{session_for, told_to}
use Rattle.law_seats.specs.SeatsLaws.{IsHeaded, replay_seats}

-- the bytes up to the last line feed, none where there is no line feed
abbrev pub whole_lines : List ℕ → List ℕ
whole_lines [] = []
whole_lines (b ∷ bytes) =
    if list_any (λ x. x == 10) (b ∷ bytes) then b ∷ whole_lines bytes else []

-- what the whole lines of a front of the output tell a seat is a front of what a replay of its own
-- session writes
abbrev pub SeatsAreToldFronts : Type 0
SeatsAreToldFronts =
    (input : List ℕ) (header : SeatsHeader) (lines : List (List ℕ)) (seat n : ℕ) →
    IsHeaded input header lines
    → 1 ≤ seat → seat ≤ header.count
    → IsFront (told_to seat (whole_lines (take n (output_of replay_seats input))))
    (output_of replay (session_for header.limits seat lines))
