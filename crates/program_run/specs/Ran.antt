-- What any command that reads an input owes.
use Rattle.std.specs.Prelude.{ℕ, ◌≡◌, ◌≢◌, ◌≤◌, Bool, List, length, take, Option, IfSome}
use Rattle.std.specs.Io.KnownBytes.{Appends}
use Rattle.wio_core.specs.Io.{Rose}
use Rattle.program_run.specs.declared.status.Status.{Status}
use Rattle.program_run.specs.declared.status.Status.TheVariants as status
use Rattle.program_run.specs.Lines.{is_cut, lines_read}
use Rattle.program_run.specs.Endings.{Answer, IsDecided}

-- the answer for an input by the lines that are read of it, of which so many bytes are read at most
abbrev pub answer_read : ℕ → (Bool → List (List ℕ) → Answer) → List ℕ → Answer
answer_read limit answer bytes = answer (is_cut limit bytes) (lines_read limit bytes)

-- known bytes grow by a front of a text
abbrev pub GrowsByFront : Option (List ℕ) → Option (List ℕ) → List ℕ → Type 0
GrowsByFront old new text = (n : ℕ) × (n ≤ length text) × Appends old new (take n text)

-- What any command owes: what it wrote and answered, by the answer that its input has, what the
-- source had left, and the counts of faults.
pub record Ran (answer : List ℕ → Answer) (left : Option (List ℕ)) (reads reads_after : ℕ)
    (held held_after : Option (List ℕ)) (writes writes_after : ℕ) (result : Status) : Type 0 where
  pub front : IfSome left (λ bytes. GrowsByFront held held_after (answer bytes).0)
  pub decided : IsDecided result
      → IfSome left
      (λ bytes. ((answer bytes).1 ≡ result) × Appends held held_after (answer bytes).0)
  pub read_fault : result ≡ status.ReadFault → Rose reads reads_after
  pub write_fault : result ≡ status.WriteFault → Rose writes writes_after
  pub good_words : result ≢ status.BadWords
