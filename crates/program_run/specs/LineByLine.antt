-- The law of a run that reads and writes line by line.
use Rattle.std.specs.Prelude.{ℕ, ◌≡◌, ◌+◌, ◌<◌, ◌≤◌, ◌⊎◌, Bool, true, false, List, [], ◌∷◌, ◌++◌, length, Option, IfSome}
use Rattle.std.specs.Io.KnownBytes.{Appends, IsAtEnd}
use Rattle.program_run.specs.declared.status.Status.{Status}
use Rattle.program_run.specs.declared.status.Status.TheVariants as status
use Rattle.program_run.specs.Lines.{lines_of, lines_read, size_of}
use Rattle.program_run.specs.Endings.{Answer, is_long, shown, IsDecided}

-- the bytes that were read reach at most 16,384 bytes past the first byte of each line with which
-- this holds of it and those before it
abbrev pub ReachesNear : List (List ℕ) → List ℕ → (List (List ℕ) → Type 0) → Type 0
ReachesNear lines read P =
    (before : List (List ℕ)) (line : List ℕ) (after : List (List ℕ)) →
    lines ≡ before ++ line ∷ after
    → P (before ++ line ∷ []) → length read ≤ size_of before + 16384

-- the lines of the bytes read decide the status, where the input is cut off or ends behind them,
-- and their output was written
abbrev pub IsDecidedBy :
    (Bool → List (List ℕ) → Answer) → Bool → List ℕ → (held held_after : Option (List ℕ)) → Status →
    Type 0
IsDecidedBy answer cut read held held_after result =
    ((answer cut (lines_of cut read)).1 ≡ result)
    × Appends held held_after (answer cut (lines_of cut read)).0

-- What a run owes to its lines: by how many bytes it reads at most, the answers of its command,
-- what the source had left and has, what the sink held and holds, the status, and the bytes that
-- were read. The lines that are whole in these are those of an input that is cut off behind them.
pub record LineByLine
    (limit : ℕ)
    (answer : Bool → List (List ℕ) → Answer)
    (left left_after held held_after : Option (List ℕ))
    (result : Status)
    (read : List ℕ) : Type 0 where
  pub within : length read ≤ limit
  -- a read failed: no whole line decides, and the output lines of all of them were written, without
  -- a last line
  pub read_failed : result ≡ status.ReadFault →
      (is_long (answer true (lines_of true read)).1 ≡ true)
      × Appends held held_after (shown (answer true (lines_of true read)))
  -- lines decided: the whole ones, or the source ended and it is all of them
  pub decided : IsDecided result → IsDecidedBy answer true read held held_after result
      ⊎ (IsAtEnd left_after × IsDecidedBy answer false read held held_after result)
  -- the line that decides a status is near
  pub near_deciding : IfSome left
      (λ bytes. ReachesNear (lines_read limit bytes) read
      (λ lines. is_long (answer true lines).1 ≡ false))
  -- so is the first line with which the output is longer than what was written
  pub near_unwritten : IfSome left (λ bytes. IfSome held (λ was. IfSome held_after (λ now.
      ReachesNear (lines_read limit bytes) read
      (λ lines. length now < length was + length (shown (answer true lines))))))
