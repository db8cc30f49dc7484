-- What is written for a script of a trial, and the status.
use Rattle.std.specs.Prelude.{ℕ, Bool, true, List}
use Rattle.trial_script.specs.declared.script.Script.{Script}
use Rattle.trial_script.specs.declared.script.Ending.{Ending}
use Rattle.trial_script.specs.declared.script.Ending.TheVariants as endings
use Rattle.trial_script.specs.Scripts.{script_of_lines}
use Rattle.trial_run.specs.Trial.{Ended, over, bad_line, journal_full, shown_by, trial_limits, trial_played}
use Rattle.program_run.specs.declared.last_line.LastLine.{LastLine}
use Rattle.program_run.specs.declared.last_line.LastLine.TheVariants as last
use Rattle.program_run.specs.Endings.{Answer, with_front, ending}

-- where the line with the number is outside the grammar or isn't there; where the input was cut
-- off, a line that isn't there might have come
abbrev pub bad_last : Bool → Ending → ℕ → LastLine
bad_last true (endings.Unended number) n = last.Long
bad_last cut end n = last.Bad n

-- how the output ends
abbrev pub trial_last : Bool → Ending → Ended → LastLine
trial_last cut end over = last.Over
trial_last cut end (bad_line n) = bad_last cut end n
trial_last cut end (journal_full kept) = last.Full kept.entries

-- what a script shows, and how the output ends
abbrev pub trial_shown : Bool → Script → Answer
trial_shown cut script =
    let shown = shown_by script.ending (trial_played trial_limits script) in
    with_front shown.lines (ending (trial_last cut script.ending shown.ended))

-- the answer for the lines of a script, whether or not the input was cut off behind them
abbrev pub trial_lines : Bool → List (List ℕ) → Answer
trial_lines cut lines = trial_shown cut (script_of_lines lines)
