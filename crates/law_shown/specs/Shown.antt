-- What `wlim trial` writes: the lines of the texts that the law of trials speaks of, and a last
-- line.
use Rattle.std.specs.Prelude.{◌≡◌, ◌≢◌, ℕ, ◌≤◌, ◌⊎◌, Bool, true, false, List, [], ◌∷◌, ◌++◌, codes}
use Rattle.trial_script.specs.declared.script.Ending.{Ending}
use Rattle.trial_script.specs.declared.script.Ending.TheVariants as endings
use Rattle.trial_run.specs.Kept.{Kept}
use Rattle.trial_run.specs.Trial.{Ended, over, bad_line, journal_full, trial_limits, trial_of, trial_played}
use Rattle.trial_laws.specs.ShownTexts.{AreShownTexts}
use Rattle.trial_laws.specs.MethodLaws.{IsTyped}
use Rattle.program_run.specs.declared.status.Status.{Status}
use Rattle.program_run.specs.declared.status.Status.TheVariants as status
use Rattle.program_run.specs.Endings.{Answer, with_front, ending, full_line, long_line}
use Rattle.program_run.specs.Endings.{bad_line as bad_text}
use Rattle.program_run.specs.Lines.{input_limit, is_cut}
use Rattle.program_run.specs.Run.{status_of, output_of}
use Rattle.program_run.specs.Trials.{trial_last}
use Rattle.law_shown.specs.Scripts.{script_bytes, script_for, IsScriptFor}

-- the words of the command
abbrev pub trial : List (List ℕ)
trial = codes "trial" ∷ []

-- ---- the answer

-- what the trial of an input's script shows, and then the last line, with the status
abbrev pub trial_answer : List ℕ → Answer
trial_answer input =
    let shown = trial_of (script_bytes input) in
    with_front shown.lines
    (ending (trial_last (is_cut input_limit input) (script_for input).ending shown.ended))

-- this is written, with this status
pub record IsAnswered (input : List ℕ) : Type 0 where
  pub output : output_of trial input ≡ (trial_answer input).0
  pub status : status_of trial input ≡ (trial_answer input).1

-- so it is of each input
abbrev pub TrialsAreAnswered : Type 0
TrialsAreAnswered = (input : List ℕ) → IsAnswered input

-- ---- the texts

-- The last line by the status, of a script that so ends and a trial that so ended. The trial came
-- to the `end` of the script; to its line with this number, which is outside the grammar, or isn't
-- there though the input was read to its end; to a step for which the journal is full; or to all
-- that was read of an input that wasn't, where its `end` isn't.
abbrev pub EndsAs : (cut : Bool) → Ending → Ended → Status → List ℕ → Type 0
EndsAs cut end how status.Ok last = (how ≡ over) × (last ≡ codes "end\n")
EndsAs cut end how status.BadSession last =
    (n : ℕ) × (how ≡ bad_line n) × (last ≡ bad_text n)
    × ((end ≡ endings.BadLine n) ⊎ ((end ≡ endings.Unended n) × (cut ≡ false)))
EndsAs cut end how status.JournalFull last =
    (kept : Kept) × (how ≡ journal_full kept) × (last ≡ full_line kept.entries)
EndsAs cut end how status.InputLong last =
    (n : ℕ) × (how ≡ bad_line n) × (last ≡ long_line) × (end ≡ endings.Unended n) × (cut ≡ true)
EndsAs cut end how _ last = ⊥

-- What is written is what the trial of the input's script shows, and a last line. What it shows is
-- a line for each `show` that the trial comes to, in turn; each is that of a text which the user of
-- the field that it names and the method typed (`IsShownText`). Unless the journal was full, the
-- trial was played to its end, and the method of a script with a field typed by logs, and was told
-- what the acts say.
pub record IsShown (input : List ℕ) : Type 0 where
  pub script : IsScriptFor input
  pub last : List ℕ
  pub output : output_of trial input ≡ (trial_of (script_bytes input)).lines ++ last
  pub ends : EndsAs (is_cut input_limit input) (script_for input).ending
      (trial_of (script_bytes input)).ended (status_of trial input) last
  pub texts : AreShownTexts trial_limits (script_bytes input)
  pub typed : 1 ≤ (script_for input).fields → status_of trial input ≢ status.JournalFull →
      IsTyped (script_for input) (trial_played trial_limits (script_for input)).now

-- so it is of each input
abbrev pub WrittenTextsAreBatches : Type 0
WrittenTextsAreBatches = (input : List ℕ) → IsShown input
