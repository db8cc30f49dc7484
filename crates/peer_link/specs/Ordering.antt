-- One order of a shell's link: how its line is read, given and answered
use Rattle.std.specs.Prelude.{◌≡◌, ◌⊎◌, ℕ, ◌≤◌, List, [], ◌∷◌, ◌++◌, length, map, Option, Some, None, Result, Ok, Err}
use Rattle.std.specs.Io.KnownBytes.{Appends, IsAtEnd}
use Rattle.wio_core.specs.Lines.{IsOpen, IsTooLong}
use Rattle.wio_core.specs.LineAnswers.{LinesAhead, WholeLine, LastLine}
use Rattle.wio_core.specs.declared.line_reader.LineStop.{LineStop}
use Rattle.wio_core.specs.declared.line_reader.LineStop.TheVariants as stop
use Rattle.broker_steps.specs.declared.limits.Limits.{Limits}
use Rattle.broker_steps.specs.declared.step.ShellStep.{ShellStep}
use Rattle.session_text.specs.declared.line.Form.TheVariants.{Shell}
use Rattle.session_text.specs.Reading.{line_of}
use Rattle.wl_wire.specs.Messages.{joined}
use Rattle.broker_model.specs.declared.journal.Entry.TheVariants as entries
use Rattle.broker_core.specs.declared.answers.Applied.{Applied}
use Rattle.broker_core.specs.Broker.{full_in}
use Rattle.hub_lock.specs.Passes.{PassSeat, steps_of}
use Rattle.peer_link.specs.declared.ends.ShellEnd.{ShellEnd}
use Rattle.peer_link.specs.declared.ends.ShellEnd.TheVariants as ends
use Rattle.peer_link.specs.Made.{entries_by, journal_of}
use Rattle.peer_link.specs.ShellLines.{HoldLines, AreLines, IsOrder, AreOrders}
use Rattle.peer_link.specs.ShellAnswers.{answer, answers_to}
use Rattle.peer_link.specs.ReadsShell.{ReadsShell}

-- the reader reads on, or has come to the source's end
abbrev pub CanGoOn : LinesAhead → Type 0
CanGoOn reader = (reader.room ≡ None) × ((reader.settled ≡ None) ⊎ (reader.settled ≡ Some stop.End))

-- a line with that number gives no order
abbrev pub NoOrder : List ℕ → (number : ℕ) → ShellEnd → Type 0
NoOrder line number (ends.BadLine n) = (n ≡ number) × (line_of Shell line ≡ None)
NoOrder line number ends.NoMemory = Unit {0}
NoOrder line number _ = ⊥

-- bytes that were held and then read begin with the line, which is held no more
abbrev pub GiveLine : (bytes line : List ℕ) → LinesAhead → (left : Option (List ℕ)) → Type 0
GiveLine bytes line after left = WholeLine bytes line after ⊎ LastLine bytes line after left

-- the reader looked at these bytes
pub record LooksAt (before : LinesAhead) (bytes : List ℕ) : Type 0 where
  pub unsettled : before.settled ≡ None
  pub near : length bytes ≤ 16384

-- why no order came of these bytes, of which the line has that number
abbrev pub StopsReading : LinesAhead → (bytes : List ℕ) → LinesAhead → (left : Option (List ℕ)) →
    ℕ → ShellEnd → Type 0
StopsReading before bytes after left number ends.Closed =
    (before.settled ≡ Some stop.End) ⊎ (LooksAt before bytes × (bytes ≡ []) × IsAtEnd left)
StopsReading before bytes after left number (ends.BadLine n) = LooksAt before bytes × (n ≡ number)
    × (IsTooLong bytes ⊎ (line : List ℕ) × GiveLine bytes line after left
    × (line_of Shell line ≡ None))
StopsReading before bytes after left number ends.ReadFault = LooksAt before bytes × IsOpen bytes
StopsReading before bytes after left number ends.NoMemory = LooksAt before bytes
StopsReading before bytes after left number _ = ⊥

-- an order came of these bytes, or none did
abbrev pub ReadsOrder : LinesAhead → (bytes : List ℕ) → LinesAhead → (left : Option (List ℕ)) →
    (number : ℕ)
    → Result ShellStep ShellEnd → Type 0
ReadsOrder before bytes after left number (Ok step) =
    LooksAt before bytes × (line : List ℕ) × GiveLine bytes line after left × IsOrder line step
ReadsOrder before bytes after left number (Err end) =
    StopsReading before bytes after left number end

-- the order was made, and this is what is to be answered
pub record IsOrdered (limits : Limits) (before after : PassSeat) (step : ShellStep)
    (applied : Applied) : Type 0 where
  pub entries : entries_by after ≡ entries_by before ++ entries.Shell step ∷ []
  pub answers : answers_to limits after
      ≡ answers_to limits before ++ answer applied.entry applied.route ∷ []
  pub few : steps_of after ≤ applied.entry

-- why an order wasn't taken, by the journal that was seen
abbrev pub WhyNoOrder : Limits → PassSeat → ShellStep → ShellEnd → Type 0
WhyNoOrder limits s step (ends.JournalFull kept) =
    full_in limits (journal_of limits s.seen) (entries.Shell step) ≡ Some kept
WhyNoOrder limits s step ends.NoMemory = Unit {0}
WhyNoOrder limits s step _ = ⊥

-- the order wasn't taken
pub record NotOrdered (limits : Limits) (before after : PassSeat) (step : ShellStep)
    (end : ShellEnd) : Type 0 where
  pub entries : entries_by after ≡ entries_by before
  pub answers : answers_to limits after ≡ answers_to limits before
  pub why : WhyNoOrder limits after step end

-- of the bytes read these lines were given, and the rest is held
abbrev pub IsHeld : Option LineStop → (held read : List ℕ) → List (List ℕ) →
    (left : Option (List ℕ)) → Type 0
IsHeld None held read lines left = HoldLines read lines held
IsHeld (Some stop.End) held read lines left = AreLines read lines left × IsAtEnd left
IsHeld (Some _) held read lines left = ⊥

-- a shell's link on its way: its lines were ordered and answered
pub record Serving (limits : Limits) (seat : PassSeat) (reader : LinesAhead) (read : List ℕ)
    (left held held_now : Option (List ℕ)) : Type 0 where
  pub lines : List (List ℕ)
  pub steps : List ShellStep
  pub orders : AreOrders lines steps
  pub entries : entries_by seat ≡ map (λ step. entries.Shell step) steps
  pub stands : IsHeld reader.settled reader.held read lines left
  pub gained : Appends held held_now (joined (answers_to limits seat))

-- it goes on, or has ended
abbrev pub ServesOn : Limits → PassSeat → LinesAhead → (read : List ℕ) →
    (left held held_now : Option (List ℕ))
    → Result (Unit {0}) ShellEnd → Type 0
ServesOn limits seat reader read left held held_now (Ok done) =
    Serving limits seat reader read left held held_now
ServesOn limits seat reader read left held held_now (Err end) =
    ReadsShell limits seat read left held held_now end
