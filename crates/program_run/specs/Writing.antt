-- Output that is written, whole or in part.
use Rattle.std.specs.Prelude.{ℕ, ◌≡◌, ◌≤◌, ◌⊎◌, List, [], length, take, Option}
use Rattle.std.specs.Io.KnownBytes.{Appends}
use Rattle.wio_core.specs.Lines.{IsOpen}
use Rattle.wio_core.specs.LineAnswers.{LinesAhead}
use Rattle.program_run.specs.declared.status.Status.{Status}
use Rattle.program_run.specs.declared.status.Status.TheVariants as status
use Rattle.program_run.specs.Endings.{Answer, IsDecided}

-- why output wasn't written whole
abbrev pub IsCutShort : Status → Type 0
IsCutShort why = (why ≡ status.WriteFault) ⊎ (why ≡ status.NoMemory)

-- a front of it was written
abbrev pub WritesPart : Option (List ℕ) → Option (List ℕ) → List ℕ → Status → Type 0
WritesPart held held_after text why =
    (n : ℕ) × (n ≤ length text) × Appends held held_after (take n text) × IsCutShort why

-- the rest of an output was written, and its status is the answer, or a front of it was
abbrev pub WritesEnd : Option (List ℕ) → Option (List ℕ) → Answer → Status → Type 0
WritesEnd held held_after end result =
    (Appends held held_after end.0 × (result ≡ end.1) × IsDecided result)
    ⊎ WritesPart held held_after end.0 result

-- what was gathered was written, or it wasn't and the reader holds the next line
abbrev pub WritesDue : (List ℕ → Type 0) → LinesAhead → Option (List ℕ) → Option (List ℕ) → List ℕ →
    Type 0
WritesDue holds reader held held_after gathered =
    (holds [] × Appends held held_after gathered)
    ⊎ (holds gathered × Appends held held_after [] × ¬ IsOpen reader.held)
