-- A generated session as text.
use Rattle.std.specs.Prelude.{ℕ, zero, suc, ◌<◌, List, [], ◌∷◌, ◌++◌, length, take, codes, Option}
use Rattle.std.specs.Io.KnownBytes.{Appends}
use Rattle.broker_steps.specs.declared.step.Step.{Step}
use Rattle.session_text.specs.declared.line.Form.TheVariants as forms
use Rattle.session_text.specs.declared.line.Line.TheVariants as lines
use Rattle.session_text.specs.Grammar.{spelling}
use Rattle.session_text.specs.Steps.{step_line}
use Rattle.session_gen.specs.Generated.{step_count}
use Rattle.program_gen.specs.Journals.{step_at}

-- the line of a step in form 1, with its line feed
abbrev pub step_text : Step → List ℕ
step_text step = spelling forms.Session (lines.Session (step_line step)) ++ 10 ∷ []

-- the header and the lines of the first `made` steps of the session of n
unfoldable pub text_up_to : ℕ → ℕ → List ℕ
text_up_to n zero = codes "session 1 1000000 65536\n"
text_up_to n (suc made) = text_up_to n made ++ step_text (step_at n made)

-- the whole session: behind its steps stands the line `end`
unfoldable pub text_of : ℕ → List ℕ
text_of n = text_up_to n step_count ++ codes "end\n"

-- what was written grew by a front of the text that isn't all of it
abbrev pub GrowsByPart : Option (List ℕ) → Option (List ℕ) → List ℕ → Type 0
GrowsByPart old new text = (n : ℕ) × (n < length text) × Appends old new (take n text)
