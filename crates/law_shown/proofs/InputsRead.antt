-- The lines that are read of an input are those of the bytes that are its script.
use Rattle.std.proofs.Common.{◌≡◌, ℕ, ◌<◌, Bool, true, false, List, [], ◌++◌, length, take, refl, sym, ap, ◌∙◌, arith, append-nil, length-take}
use Rattle.std.specs.Prelude.{if◌then◌else◌}
use Rattle.std.proofs.lemmas.Bool.{eqb-false}
use Rattle.trial_script.specs.Lines.{lines_of as script_lines}
use Rattle.trial_script.specs.Scripts.{script_of, script_of_lines}
use Rattle.program_run.specs.Lines.{input_limit, lines_of, lines_read, is_cut, taken, bytes_of}
use Rattle.program_run.specs.Reading.{LackFeeds}
use Rattle.program_run.proofs.InputSplits.{lines_front, lines_nil}
use Rattle.program_run.proofs.ReadLines.{input_ended}
use Rattle.program_run.proofs.ScriptLines.{script_whole}
use Rattle.program_run.proofs.WholeLines.{read_lacks}
use Rattle.law_shown.specs.Scripts.{script_bytes, script_for, InputsAreScripts}

-- ---- an input that was cut off

-- lines with their line feeds fall into these lines
lines_back : (lines : List (List ℕ)) → LackFeeds lines → lines_of false (bytes_of lines) ≡ lines
lines_back lines lack =
    ap (lines_of false) (sym (append-nil (bytes_of lines))) ∙ lines_front false lines [] lack
    ∙ ap (λ (l : List (List ℕ)). lines ++ l) (lines_nil false) ∙ append-nil lines

lines_again : (limit : ℕ) (input : List ℕ) →
    script_lines (bytes_of (lines_read limit input)) ≡ lines_read limit input
lines_again limit input =
    script_whole (bytes_of (lines_read limit input))
    ∙ lines_back (lines_read limit input) (read_lacks limit input)

-- ---- one that wasn't

shorter : (limit : ℕ) (input : List ℕ) → is_cut limit input ≡ false → length input < limit
unfolding is_cut taken
shorter limit input open_end =
    let other = eqb-false (length (take limit input)) limit open_end in
    omega (arith, other, length-take limit input)

not_cut : (limit : ℕ) (input : List ℕ) → length input < limit → is_cut limit input ≡ false
not_cut limit input short = (input_ended {limit = limit} (lines_of false input) input input refl short refl).0

lines_whole : (limit : ℕ) (input : List ℕ) → length input < limit → script_lines input ≡ lines_read limit input
lines_whole limit input short =
    script_whole input ∙ sym (input_ended {limit = limit} (lines_of false input) input input refl short refl).1

-- ---- any

lines_by : (limit : ℕ) (input : List ℕ) (cut : Bool) → is_cut limit input ≡ cut →
    script_lines (if cut then bytes_of (lines_read limit input) else input) ≡ lines_read limit input
lines_by limit input true is = lines_again limit input
lines_by limit input false is = lines_whole limit input (shorter limit input is)

lines_are : (input : List ℕ) → script_lines (script_bytes input) ≡ lines_read input_limit input
unfolding script_bytes
lines_are input = lines_by input_limit input (is_cut input_limit input) refl

script_is : (input : List ℕ) → script_for input ≡ script_of_lines (lines_read input_limit input)
unfolding script_of
script_is input = ap script_of_lines (lines_are input)

whole_is : (input : List ℕ) → length input < input_limit → script_bytes input ≡ input
unfolding script_bytes
whole_is input short =
    ap (λ (cut : Bool). if cut then bytes_of (lines_read input_limit input) else input)
    (not_cut input_limit input short)

pub inputs_are_scripts : InputsAreScripts
inputs_are_scripts input = record { lines = lines_are input; same = script_is input; whole = whole_is input }
