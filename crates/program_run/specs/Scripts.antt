-- How lines that are played one at a time come to the answer for all of them.
use Rattle.std.specs.Prelude.{◌≡◌, ℕ, ◌<◌, Bool, true, false, List, [], ◌∷◌, ◌++◌, length, Option, Some, None}
use Rattle.session_text.specs.Reading.{line_limit}
use Rattle.program_run.specs.declared.last_line.LastLine.{LastLine}
use Rattle.program_run.specs.declared.last_line.LastLine.TheVariants as last
use Rattle.program_run.specs.Endings.{Answer, with_front, ending, is_long}

-- no line of these decided: their output is a front of every answer for them and others, and all of
-- it but for the last line where the input was cut off behind them
pub record Follows (answer : Bool → List (List ℕ) → Answer) (done : List (List ℕ))
    (output : List ℕ) : Type 0 where
  pub begins : (cut : Bool) (more : List (List ℕ))
      → (rest : Answer) × (answer cut (done ++ more) ≡ with_front output rest)
  pub undecided : answer true done ≡ with_front output (ending last.Long)

-- a line of these decided, and this is the answer, whatever follows
pub record Settles (answer : Bool → List (List ℕ) → Answer) (done : List (List ℕ))
    (whole : Answer) : Type 0 where
  pub same : (cut : Bool) (more : List (List ℕ)) → answer cut (done ++ more) ≡ whole
  pub decides : is_long whole.1 ≡ false

-- what one line more comes to, by what stands and what is held after it
abbrev pub Played :
    (Bool → List (List ℕ) → Answer) → (List (List ℕ) → List ℕ → Type 0) → (List ℕ → Type 0)
    → List (List ℕ) → List ℕ → List ℕ → List ℕ → Option LastLine → Type 0
Played answer stands holds done raw output gathered None =
    (more : List ℕ) × stands (done ++ raw ∷ []) (output ++ more) × holds (gathered ++ more)
    × Follows answer (done ++ raw ∷ []) (output ++ more)
Played answer stands holds done raw output gathered (Some end) =
    (more : List ℕ) × holds (gathered ++ more) × Settles answer (done ++ raw ∷ [])
    (with_front (output ++ more) (ending end))

-- how the output ends where no line follows, and where the next has more bytes than a line may have
pub record NamesNext (answer : Bool → List (List ℕ) → Answer) (done : List (List ℕ))
    (output : List ℕ)
    (end : LastLine) : Type 0 where
  pub missing : answer false done ≡ with_front output (ending end)
  pub long : (raw : List ℕ) → line_limit < length raw
      → Settles answer (done ++ raw ∷ []) (with_front output (ending end))
