-- What a script shows, as its trial was answered.
use Rattle.std.proofs.Common.{◌≡◌, ℕ, Bool, List, sym, ap, ◌∙◌}
use Rattle.trial_script.specs.Lines.{lines_of as script_lines}
use Rattle.trial_script.specs.Scripts.{script_of}
use Rattle.trial_run.specs.Trial.{Ended, Shown, trial_of}
use Rattle.program_run.specs.declared.last_line.LastLine.{LastLine}
use Rattle.program_run.specs.Endings.{with_front, ending}
use Rattle.program_run.specs.Lines.{lines_of}
use Rattle.program_run.specs.Trials.{trial_last, trial_shown, trial_lines}

-- the text and the last line are what it shows and how it ends
pub shown_is : (cut : Bool) (script text : List ℕ) (how : Ended) (end : LastLine) →
    trial_of script ≡ record { lines = text; ended = how } →
    end ≡ trial_last cut (script_of script).ending how →
    with_front text (ending end) ≡ trial_shown cut (script_of script)
shown_is cut script text how end is e =
    ap (λ (l : LastLine). with_front text (ending l)) e
    ∙ sym (ap (λ (s : Shown). with_front s.lines (ending (trial_last cut (script_of script).ending s.ended))) is)

-- the script of the bytes is that of the lines that they have
pub of_lines : (cut : Bool) (script input : List ℕ) → script_lines script ≡ lines_of cut input →
    trial_shown cut (script_of script) ≡ trial_lines cut (lines_of cut input)
unfolding script_of
of_lines cut script input e = ap (λ (lines : List (List ℕ)). trial_lines cut lines) e
