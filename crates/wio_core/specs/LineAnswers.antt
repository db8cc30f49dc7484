-- What a reader of lines answers for the bytes that it held and then read.
use Rattle.std.specs.Prelude.{ℕ, ◌≡◌, ◌+◌, ◌<◌, ◌≤◌, List, [], ◌++◌, length, Option, Some, None, MatchOption, ◌⊎◌}
use Rattle.wio_core.specs.Io.{Rose}
use Rattle.wio_core.specs.Lines.{BeginsWithLine, TookFrom, Gathers, HasCause}
use Rattle.wio_core.specs.declared.line_reader.LineStop.{LineStop}
use Rattle.wio_core.specs.declared.line_reader.LineStop.TheVariants as stop
use Rattle.wio_core.specs.declared.line_reader.NextLine.{NextLine}
use Rattle.wio_core.specs.declared.line_reader.NextLine.TheVariants as answer

-- what a reader of lines holds, how many bytes it may still take, where that has a limit, and what
-- it answers from now on, where that is settled
pub record LinesAhead : Type 0 where
  pub held : List ℕ
  pub room : Option ℕ
  pub settled : Option LineStop

-- the next line came with its line feed
pub record WholeLine (bytes line : List ℕ) (after : LinesAhead) : Type 0 where
  pub begins : BeginsWithLine bytes line after.held
  pub goes_on : after.settled ≡ None

-- the source ended, and its last bytes are a line without a line feed
pub record LastLine (bytes line : List ℕ) (after : LinesAhead)
    (left : Option (List ℕ)) : Type 0 where
  pub all : bytes ≡ line
  pub some : 0 < length line
  pub cause : HasCause stop.End bytes after.room left
  pub none_held : after.held ≡ []
  pub settled : after.settled ≡ Some stop.End

-- no line comes, and the cause stays
pub record StopsBy (why : LineStop) (bytes : List ℕ) (after : LinesAhead)
    (left : Option (List ℕ)) : Type 0 where
  pub cause : HasCause why bytes after.room left
  pub held : after.held ≡ bytes
  pub settled : after.settled ≡ Some why

-- the answer for bytes that were held and then read
abbrev pub Tells : NextLine → List ℕ → LinesAhead → Option (List ℕ) → Type 0
Tells (answer.Line line) bytes after left =
    WholeLine bytes line.now after ⊎ LastLine bytes line.now after left
Tells answer.End bytes after left = StopsBy stop.End bytes after left × (bytes ≡ [])
Tells answer.Long bytes after left = StopsBy stop.Long bytes after left
Tells answer.Limit bytes after left = StopsBy stop.Limit bytes after left
Tells answer.ReadFault bytes after left = StopsBy stop.ReadFault bytes after left

-- why a reader gave no line
abbrev pub stop_of : NextLine → Option LineStop
stop_of (answer.Line line) = None
stop_of answer.End = Some stop.End
stop_of answer.Long = Some stop.Long
stop_of answer.Limit = Some stop.Limit
stop_of answer.ReadFault = Some stop.ReadFault

-- a reader that goes on took these bytes, at most 16,384 with those that it held, and answered for
-- them
pub record GoesOn
    (before after : LinesAhead)
    (given_before given_after left_before left_after : Option (List ℕ))
    (result : NextLine)
    (read : List ℕ) : Type 0 where
  pub took : TookFrom given_before given_after left_before left_after read
  pub gathers : Gathers before.held (before.held ++ read) before.room after.room read
  pub near : length before.held + length read ≤ 16384
  pub tells : Tells result (before.held ++ read) after left_after

-- one call: a reader whose answer is settled stays as it was and gives it again
abbrev pub Answers : (before after : LinesAhead)
    (given_before given_after left_before left_after : Option (List ℕ))
    → NextLine → Type 0
Answers before after given_before given_after left_before left_after result =
    MatchOption before.settled
    ((read : List ℕ)
    × GoesOn before after given_before given_after left_before left_after result read)
    (λ why. (stop_of result ≡ Some why) × (after ≡ before))

-- a failed read is counted by the source, and for no other answer is one counted
abbrev pub HasFaultCause : NextLine → ℕ → ℕ → Type 0
HasFaultCause answer.ReadFault before after = Rose before after
HasFaultCause _ before after = after ≡ before
