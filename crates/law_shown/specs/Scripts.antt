-- The bytes of an input that are the script of its trial.
use Rattle.std.specs.Prelude.{◌≡◌, ℕ, ◌<◌, if◌then◌else◌, List, length}
use Rattle.trial_script.specs.declared.script.Script.{Script}
use Rattle.trial_script.specs.Lines.{lines_of}
use Rattle.trial_script.specs.Scripts.{script_of, script_of_lines}
use Rattle.program_run.specs.Lines.{input_limit, is_cut, lines_read, bytes_of}

-- the input itself, or, where it has as many bytes as are read at most, the lines that are read of
-- it, each with a line feed
unfoldable pub script_bytes : List ℕ → List ℕ
script_bytes input =
    if is_cut input_limit input then bytes_of (lines_read input_limit input) else input

-- the script of these bytes
abbrev pub script_for : List ℕ → Script
script_for input = script_of (script_bytes input)

-- The script's lines are those that are read of the input, so it is the script of these. An input
-- of fewer bytes than are read at most is the script itself.
pub record IsScriptFor (input : List ℕ) : Type 0 where
  pub lines : lines_of (script_bytes input) ≡ lines_read input_limit input
  pub same : script_for input ≡ script_of_lines (lines_read input_limit input)
  pub whole : length input < input_limit → script_bytes input ≡ input

-- so it is of each input
abbrev pub InputsAreScripts : Type 0
InputsAreScripts = (input : List ℕ) → IsScriptFor input
