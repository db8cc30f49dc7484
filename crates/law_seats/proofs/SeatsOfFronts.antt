-- A seat is told a front of its session by the whole lines of a front of the output.
use Rattle.std.proofs.Common.{◌≡◌, ℕ, List, [], take, append-nil, ◌∙◌}
use Rattle.lines_transcript.specs.Printed.{IsFront}
use Rattle.program_run.specs.declared.status.Status.{Status}
use Rattle.program_run.specs.declared.status.Status.TheVariants as status
use Rattle.program_run.specs.Migrates.{replay}
use Rattle.program_run.specs.Run.{output_of, status_of}
use Rattle.law_seats.specs.SeatTexts.{session_for, told_to}
use Rattle.law_seats.specs.SeatsLaws.{IsAsFarAs, replay_seats}
use Rattle.law_seats.specs.SeatsFronts.{SeatsAreToldFronts, whole_lines}
use Rattle.law_seats.proofs.LinesOfFronts.{front_both, told_of_front}
use Rattle.law_seats.proofs.SeatsAlone.{told_alone}

all_front : (told text : List ℕ) → told ≡ text → IsFront told text
all_front told text is = ([], append-nil told ∙ is)

as_front : (s : Status) (told text : List ℕ) → IsAsFarAs s told text → IsFront told text
as_front status.Ok told text h = all_front told text h
as_front status.JournalFull told text h = all_front told text h
as_front status.BadWords told text h = h
as_front status.BadSession told text h = h
as_front status.ReadFault told text h = h
as_front status.WriteFault told text h = h
as_front status.NoMemory told text h = h
as_front status.InputLong told text h = h
as_front status.AuditNo told text h = h

pub told_fronts : SeatsAreToldFronts
told_fronts input header lines seat n headed some few =
    let output : List ℕ = output_of replay_seats input in
    let text : List ℕ = output_of replay (session_for header.limits seat lines) in
    front_both (told_to seat (whole_lines (take n output))) (told_to seat output) text (told_of_front seat n output)
    (as_front (status_of replay_seats input) (told_to seat output) text
    (told_alone input header lines seat headed some few))
