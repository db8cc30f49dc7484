-- The law of a drawn script: it is read as what was drawn.
use Rattle.std.specs.Prelude.{◌≡◌, ℕ}
use Rattle.trial_script.specs.Scripts.{script_of}
use Rattle.trial_gen.specs.Drawn.{script_text, drawn_script}

-- each number's script is read to its end, and nothing else is read
abbrev pub ReadsAsDrawn : Type 0
ReadsAsDrawn = (n : ℕ) → script_of (script_text n) ≡ drawn_script n
