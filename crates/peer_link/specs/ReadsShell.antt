-- The law of a shell's link: what it ordered, how far it was read, and what its sink gained
use Rattle.std.specs.Prelude.{◌≡◌, ◌⊎◌, ℕ, ◌+◌, ◌≤◌, List, [], ◌∷◌, ◌++◌, length, map, Bool, true, false, Option, Some, None}
use Rattle.std.specs.Io.KnownBytes.{IsAtEnd}
use Rattle.wio_core.specs.Lines.{IsOpen, IsTooLong}
use Rattle.broker_steps.specs.declared.limits.Limits.{Limits}
use Rattle.broker_steps.specs.declared.step.ShellStep.{ShellStep}
use Rattle.session_text.specs.declared.line.Form.TheVariants.{Shell}
use Rattle.session_text.specs.Reading.{line_of}
use Rattle.broker_model.specs.declared.journal.Entry.TheVariants as entries
use Rattle.broker_model.specs.declared.journal.Kept.{Kept}
use Rattle.broker_core.specs.Broker.{full_in}
use Rattle.hub_lock.specs.Passes.{PassSeat}
use Rattle.peer_link.specs.declared.ends.ShellEnd.{ShellEnd}
use Rattle.peer_link.specs.declared.ends.ShellEnd.TheVariants as ends
use Rattle.peer_link.specs.Made.{entries_by, journal_of}
use Rattle.peer_link.specs.Gains.{Gains}
use Rattle.peer_link.specs.ShellLines.{HoldLines, BeginWith, AreLines, IsOrder, AreOrders}
use Rattle.peer_link.specs.ShellAnswers.{answers_to}

-- the bytes read are these lines and what was read behind them, which reaches at most 16,384 past
-- their end, where the next line begins
pub record ReadsNear (read : List ℕ) (lines : List (List ℕ)) (rest : List ℕ) : Type 0 where
  pub holds : HoldLines read lines rest
  pub near : length rest ≤ 16384

-- the bytes begin with a line that is outside of the grammar, or too long for any line
abbrev pub BeginBad : (bytes : List ℕ) → (left : Option (List ℕ)) → Type 0
BeginBad bytes left =
    IsTooLong bytes ⊎ (line : List ℕ) × BeginWith bytes line left × (line_of Shell line ≡ None)

-- the bytes begin with the line of an order for which the journal is full, that holds so much
abbrev pub BeginFull : Limits → PassSeat → (bytes : List ℕ) → (left : Option (List ℕ)) → Kept →
    Type 0
BeginFull limits s bytes left kept =
    (line : List ℕ) × (step : ShellStep) × BeginWith bytes line left
    × IsOrder line step
    × (full_in limits (journal_of limits s.seen) (entries.Shell step) ≡ Some kept)

-- what each end says of the lines that were ordered, and of what was read behind them
abbrev pub EndsAs : Limits → PassSeat → (read : List ℕ) → (left : Option (List ℕ)) → List (List ℕ) →
    ShellEnd → Type 0
EndsAs limits s read left lines ends.Closed = AreLines read lines left × IsAtEnd left
EndsAs limits s read left lines (ends.BadLine number) =
    (number ≡ length lines + 1) × (rest : List ℕ) × ReadsNear read lines rest × BeginBad rest left
EndsAs limits s read left lines ends.ReadFault =
    (rest : List ℕ) × ReadsNear read lines rest × IsOpen rest
EndsAs limits s read left lines ends.WriteFault =
    (before : List (List ℕ)) × (last : List ℕ) × (lines ≡ before ++ last ∷ [])
    × (rest : List ℕ) × ReadsNear read before rest × BeginWith rest last left
EndsAs limits s read left lines (ends.JournalFull kept) =
    (rest : List ℕ) × ReadsNear read lines rest × BeginFull limits s rest left kept
EndsAs limits s read left lines ends.NoMemory = (rest : List ℕ) × ReadsNear read lines rest

-- a write failed
abbrev pub is_cut : ShellEnd → Bool
is_cut ends.WriteFault = true
is_cut _ = false

-- The pass's steps are the orders of the first lines of the bytes read, in order, and the sink
-- gained an answer to each.
pub record ReadsShell (limits : Limits) (seat : PassSeat) (read : List ℕ)
    (left held held_after : Option (List ℕ))
    (end : ShellEnd) : Type 0 where
  pub lines : List (List ℕ)
  pub steps : List ShellStep
  pub orders : AreOrders lines steps
  pub entries : entries_by seat ≡ map (λ step. entries.Shell step) steps
  pub ends : EndsAs limits seat read left lines end
  pub gained : Gains (is_cut end) held held_after (answers_to limits seat)
