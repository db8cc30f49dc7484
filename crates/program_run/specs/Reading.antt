-- An input that is read up to a line.
use Rattle.std.specs.Prelude.{ℕ, ◌≡◌, ◌+◌, ◌-◌, ◌<◌, ◌≤◌, ◌⊎◌, Bool, true, false, List, [], ◌∷◌, ◌++◌, length, Option, Some, None, Result, Ok, Err, IfSome, unwrap_or}
use Rattle.std.specs.Io.KnownBytes.{IsAtEnd}
use Rattle.wio_core.specs.Lines.{IsOpen, TookFrom}
use Rattle.wio_core.specs.LineAnswers.{LinesAhead}
use Rattle.wio_core.specs.declared.line_reader.LineStop.{LineStop}
use Rattle.wio_core.specs.declared.line_reader.LineStop.TheVariants as stop
use Rattle.program_run.specs.declared.last_line.LastLine.{LastLine}
use Rattle.program_run.specs.declared.status.Status.{Status}
use Rattle.program_run.specs.declared.status.Status.TheVariants as status
use Rattle.program_run.specs.Lines.{lines_of, lines_read, is_cut, bytes_of, size_of}
use Rattle.program_run.specs.Endings.{Answer, with_front, ending}
use Rattle.program_run.specs.Scripts.{Played, Follows}
pub use Rattle.wio_core.specs.WholeLines.{LackFeeds}

-- the bytes that were read are these lines and what the reader holds, or they are all, and the last
-- line may lack its line feed
abbrev pub IsDivided : ℕ → Option LineStop → List ℕ → Option (List ℕ) → List (List ℕ) → List ℕ →
    Type 0
IsDivided limit None held left done read = (read ≡ bytes_of done ++ held) × LackFeeds done
IsDivided limit (Some stop.End) held left done read =
    IsAtEnd left × (length read < limit) × (lines_of false read ≡ done)
    × (length read ≤ size_of done) × (length done ≤ limit)
IsDivided limit _ held left done read = ⊥

-- of a source these bytes were read, at most so many, and of them these lines were given
pub record IsReadTo (limit : ℕ) (given_first left_first given left : Option (List ℕ))
    (reader : LinesAhead) (done : List (List ℕ))
    (read : List ℕ) : Type 0 where
  pub took : TookFrom given_first given left_first left read
  pub room : reader.room ≡ Some (limit - length read)
  pub within : length read ≤ limit
  pub small : limit ≤ 4294967296
  pub divided : IsDivided limit reader.settled reader.held left done read

-- the lines of an input begin with these
abbrev pub LeadsOff : ℕ → Option (List ℕ) → List (List ℕ) → Type 0
LeadsOff limit left_first done =
    IfSome left_first (λ bytes. (rest : List (List ℕ)) × (lines_read limit bytes ≡ done ++ rest))

-- the bytes that were read are at most so many, and reach at most 16,384 bytes past these lines,
-- and no further than before where the reader held a line
pub record StaysNear (limit : ℕ) (left_first : Option (List ℕ)) (reader : LinesAhead)
    (done : List (List ℕ)) (read_before read : List ℕ) : Type 0 where
  pub within : length read ≤ limit
  pub near : length read ≤ size_of done + 16384
  pub waits : ¬ IsOpen reader.held → IfSome left_first (λ bytes. read ≡ read_before)

-- the answer for the whole input is told, which begins with these lines: by those that are whole in
-- the bytes read, or as the source ended by all of them
pub record IsTold (limit : ℕ) (answer : Bool → List (List ℕ) → Answer)
    (left_first left : Option (List ℕ)) (done : List (List ℕ))
    (read : List ℕ) (whole : Answer) : Type 0 where
  pub all : IfSome left_first
      (λ bytes. answer (is_cut limit bytes) (lines_read limit bytes) ≡ whole)
  pub leads : LeadsOff limit left_first done
  pub early : (answer true (lines_of true read) ≡ whole)
      ⊎ (IsAtEnd left × (answer false (lines_of false read) ≡ whole))

-- how many bytes a reader may still give in lines
abbrev pub bytes_ahead : LinesAhead → ℕ
bytes_ahead reader = length reader.held + unwrap_or reader.room 0

-- What the next line comes to, after these: it was played, it decided or is missing, a read failed,
-- or there was no memory to play it.
abbrev pub ComesTo :
    ℕ → (Bool → List (List ℕ) → Answer) → (List (List ℕ) → List ℕ → Type 0) → (List ℕ → Type 0)
    → (given_first left_first given left : Option (List ℕ)) (before after : LinesAhead)
    → List (List ℕ) → List ℕ → List ℕ → List ℕ → Result (Option LastLine) Status → Type 0
ComesTo limit answer stands holds given_first left_first given left before after done read output
    gathered (Ok None) =
    (raw read_after : List ℕ)
    × IsReadTo limit given_first left_first given left after (done ++ raw ∷ []) read_after
    × Played answer stands holds done raw output gathered None
    × StaysNear limit left_first before done read read_after
    × (bytes_ahead after < bytes_ahead before)
ComesTo limit answer stands holds given_first left_first given left before after done read output
    gathered (Ok (Some end)) =
    (more read_after : List ℕ) × TookFrom given_first given left_first left read_after
    × holds (gathered ++ more)
    × IsTold limit answer left_first left done read_after (with_front (output ++ more) (ending end))
    × StaysNear limit left_first before done read read_after
ComesTo limit answer stands holds given_first left_first given left before after done read output
    gathered
    (Err status.ReadFault) =
    (read_after : List ℕ) × TookFrom given_first given left_first left read_after
    × (lines_of true read_after ≡ done) × holds gathered × IsOpen before.held
    × StaysNear limit left_first before done read read_after
ComesTo limit answer stands holds given_first left_first given left before after done read output
    gathered (Err why) =
    (read_after : List ℕ) × TookFrom given_first given left_first left read_after
    × (why ≡ status.NoMemory)
    × StaysNear limit left_first before done read read_after

-- what reading and playing the next line comes to, whatever the limit, wherever the reading began
-- and whatever lines came before
abbrev pub PlaysNext :
    (Bool → List (List ℕ) → Answer) → (stands stands_after : List (List ℕ) → List ℕ → Type 0)
    → (holds holds_after : List ℕ → Type 0)
    → (given left given_after left_after : Option (List ℕ)) (before after : LinesAhead)
    → Result (Option LastLine) Status → Type 0
PlaysNext answer stands stands_after holds holds_after given left given_after left_after before
    after result =
    (limit : ℕ) (given_first left_first : Option (List ℕ)) (done : List (List ℕ))
    (read output gathered : List ℕ)
    → IsReadTo limit given_first left_first given left before done read → stands done output →
    holds gathered
    → Follows answer done output
    → ComesTo limit answer stands_after holds_after given_first left_first given_after left_after
    before after done read
    output gathered result
