-- What `trial` writes is what the trial of an input's script shows, and a last line.
use Rattle.std.proofs.Common.{◌≡◌, ◌≢◌, ℕ, ◌≤◌, Bool, true, false, if◌then◌else◌, List, refl, sym, ap, subst, ◌∙◌, inl, inr}
use Rattle.trial_script.specs.declared.script.Ending.{Ending}
use Rattle.trial_script.specs.declared.script.Ending.TheVariants as endings
use Rattle.trial_script.specs.declared.script.Script.{Script}
use Rattle.trial_run.specs.Kept.{Kept}
use Rattle.trial_run.specs.Broker.{kept_in}
use Rattle.trial_run.specs.Play.{TrialPlay}
use Rattle.trial_run.specs.Ran.{Ran, went}
use Rattle.trial_run.specs.Trial.{Ended, journal_full, by_ending, trial_limits, trial_of, trial_played}
use Rattle.trial_laws.proofs.ShownTexts.{shown_texts_are_batches}
use Rattle.trial_laws.specs.MethodLaws.{IsTyped}
use Rattle.trial_laws.proofs.TrialsTyped.{trials_are_typed}
use Rattle.program_run.specs.declared.status.Status.{Status}
use Rattle.program_run.specs.declared.status.Status.TheVariants as status
use Rattle.program_run.specs.Endings.{Answer, ending}
use Rattle.program_run.specs.Lines.{input_limit, is_cut, lines_read}
use Rattle.program_run.specs.Run.{output_of, status_of}
use Rattle.program_run.specs.Trials.{trial_last, trial_lines, trial_shown}
use Rattle.law_shown.specs.Scripts.{script_bytes, script_for}
use Rattle.law_shown.specs.Shown.{trial, trial_answer, TrialsAreAnswered, EndsAs, WrittenTextsAreBatches}
use Rattle.law_shown.proofs.InputsRead.{inputs_are_scripts}

-- ---- the answer

answer_is : (input : List ℕ) →
    ((output_of trial input, status_of trial input)
    ≡ trial_lines (is_cut input_limit input) (lines_read input_limit input))
unfolding output_of status_of
answer_is input = refl

same_answer : (input : List ℕ) → ((output_of trial input, status_of trial input) ≡ trial_answer input)
same_answer input =
    answer_is input
    ∙ ap (λ (s : Script). trial_shown (is_cut input_limit input) s) (sym (inputs_are_scripts input).same)

pub trials_are_answered : TrialsAreAnswered
trials_are_answered input = record {
  output = ap (λ (a : Answer). a.0) (same_answer input);
  status = ap (λ (a : Answer). a.1) (same_answer input);
}

-- ---- how it ends

-- how a trial ended whose script so ends, and that met a full journal or not
abbrev how_by : Ending → Bool → Kept → Ended
how_by end full kept = if full then journal_full kept else by_ending end

-- its last line, with the status
abbrev last_by : Bool → Ending → Ended → Answer
last_by cut end how = ending (trial_last cut end how)

ends_by : (cut : Bool) (end : Ending) (full : Bool) (kept : Kept) →
    EndsAs cut end (how_by end full kept) (last_by cut end (how_by end full kept)).1
    (last_by cut end (how_by end full kept)).0
ends_by cut end true kept = (kept, refl, refl)
ends_by cut endings.End false kept = (refl, refl)
ends_by true (endings.BadLine n) false kept = (n, refl, refl, inl refl)
ends_by false (endings.BadLine n) false kept = (n, refl, refl, inl refl)
ends_by true (endings.Unended n) false kept = (n, refl, refl, refl, refl)
ends_by false (endings.Unended n) false kept = (n, refl, refl, inr (refl, refl))

not_full : (cut : Bool) (end : Ending) (full : Bool) (kept : Kept) →
    (last_by cut end (how_by end full kept)).1 ≢ status.JournalFull → full ≡ false
not_full cut end true kept other = absurd (other refl)
not_full cut end false kept other = refl

went_is : (r : Ran TrialPlay) → r.is_full ≡ false → r ≡ went r.now
went_is r e = ap (λ (full : Bool). record { now = r.now; is_full = full }) e

-- ---- the whole

-- the trial of the input's script
abbrev played : List ℕ → Ran TrialPlay
played input = trial_played trial_limits (script_for input)

-- what the journal held
abbrev held : List ℕ → Kept
held input = kept_in (played input).now.broker.journal

-- its last line, with the status
abbrev last_of : List ℕ → Answer
last_of input =
    last_by (is_cut input_limit input) (script_for input).ending (trial_of (script_bytes input)).ended

ends : (input : List ℕ) →
    EndsAs (is_cut input_limit input) (script_for input).ending (trial_of (script_bytes input)).ended
    (status_of trial input) (last_of input).0
ends input =
    subst
    (λ (s : Status). EndsAs (is_cut input_limit input) (script_for input).ending
    (trial_of (script_bytes input)).ended s (last_of input).0)
    (sym (trials_are_answered input).status)
    (ends_by (is_cut input_limit input) (script_for input).ending (played input).is_full (held input))

typed : (input : List ℕ) → 1 ≤ (script_for input).fields → status_of trial input ≢ status.JournalFull →
    IsTyped (script_for input) (played input).now
typed input some other =
    let going : (played input).is_full ≡ false =
    not_full (is_cut input_limit input) (script_for input).ending (played input).is_full (held input)
    (λ full. other ((trials_are_answered input).status ∙ full)) in
    trials_are_typed (script_bytes input) (played input).now some (went_is (played input) going)

pub written_texts_are_batches : WrittenTextsAreBatches
written_texts_are_batches input = record {
  script = inputs_are_scripts input;
  last = (last_of input).0;
  output = (trials_are_answered input).output;
  ends = ends input;
  texts = shown_texts_are_batches trial_limits (script_bytes input);
  typed = typed input;
}
