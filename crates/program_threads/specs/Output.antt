-- What is written of a trial in threads: a line of each field, and a last line.
use Rattle.std.specs.Prelude.{ℕ, ◌+◌, List, [], ◌∷◌, ◌++◌, codes}
use Rattle.trial_run.specs.FieldLog.{text_of}
use Rattle.trial_client_logs.specs.declared.entry.FieldEntry.{FieldEntry}
use Rattle.trial_client_logs.specs.Logs.{field_log}
use Rattle.trial_run.specs.Lines.{show_line}
use Rattle.trial_threads.specs.declared.trial.ThreadTrial.{ThreadTrial}
pub use Rattle.program_run.specs.Texts.{GrowsByPart}

-- the lines of fields, of which the first has the number n: each shows the text that its log makes
abbrev pub shown_from : ℕ → List (List FieldEntry) → List ℕ
shown_from n [] = []
shown_from n (log ∷ more) = show_line n (text_of (field_log log)) ++ shown_from (n + 1) more

-- all that is written
unfoldable pub output_of : ThreadTrial → List ℕ
output_of t = shown_from 1 t.logs ++ codes "end\n"
