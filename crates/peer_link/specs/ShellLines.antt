-- The lines of a shell's link
use Rattle.std.specs.Prelude.{◌≡◌, ◌⊎◌, ℕ, ◌<◌, List, [], ◌∷◌, ◌++◌, length, Option, Some}
use Rattle.std.specs.Io.KnownBytes.{IsAtEnd}
use Rattle.wio_core.specs.Lines.{LacksFeed, BeginsWithLine}
use Rattle.broker_steps.specs.declared.step.ShellStep.{ShellStep}
use Rattle.session_text.specs.declared.line.Form.TheVariants.{Shell}
use Rattle.session_text.specs.declared.line.Line.TheVariants as text
use Rattle.session_text.specs.Reading.{line_of}
pub use Rattle.wio_core.specs.WholeLines.{bytes_of, LackFeeds}

-- the bytes are these lines with their line feeds, and the rest
pub record HoldLines (bytes : List ℕ) (lines : List (List ℕ)) (rest : List ℕ) : Type 0 where
  pub is : bytes ≡ bytes_of lines ++ rest
  pub lack : LackFeeds lines

-- the source ended, and the bytes are a last line without a line feed
pub record IsLastLine (bytes line : List ℕ) (left : Option (List ℕ)) : Type 0 where
  pub is : bytes ≡ line
  pub some : 0 < length line
  pub lacks : LacksFeed line
  pub ended : IsAtEnd left

-- the bytes begin with this line, which its line feed ends, or the source's end
abbrev pub BeginWith : (bytes line : List ℕ) → (left : Option (List ℕ)) → Type 0
BeginWith bytes line left =
    ((rest : List ℕ) × BeginsWithLine bytes line rest) ⊎ IsLastLine bytes line left

-- the bytes are these lines, of which the last may lack its line feed
abbrev pub AreLines : (bytes : List ℕ) → List (List ℕ) → (left : Option (List ℕ)) → Type 0
AreLines bytes lines left =
    HoldLines bytes lines []
    ⊎ (before : List (List ℕ)) × (last : List ℕ) × (lines ≡ before ++ last ∷ [])
    × HoldLines bytes before last
    × IsLastLine last last left

-- the order that a line gives
abbrev pub IsOrder : List ℕ → ShellStep → Type 0
IsOrder line step = line_of Shell line ≡ Some (text.Shell step)

-- the lines give these orders, one each
abbrev pub AreOrders : List (List ℕ) → List ShellStep → Type 0
AreOrders [] [] = Unit {0}
AreOrders (line ∷ lines) (step ∷ steps) = IsOrder line step × AreOrders lines steps
AreOrders _ _ = ⊥
