-- What is written for the lines of an act list, and the status.
use Rattle.std.specs.Prelude.{ℕ, ◌+◌, nat_lt, Bool, if◌then◌else◌, List, [], ◌∷◌, ◌++◌, length, Option, Some, None}
use Rattle.std.specs.List.{flat_map}
use Rattle.relay_model.specs.declared.act.Act.{Act}
use Rattle.relay_model.specs.declared.said.Told.{Told}
use Rattle.relay_model.specs.Told.{told}
use Rattle.session_text.specs.declared.line.Form.TheVariants.{Acts}
use Rattle.session_text.specs.declared.line.Line.{Line}
use Rattle.session_text.specs.declared.line.Line.TheVariants as line
use Rattle.session_text.specs.Reading.{line_of}
use Rattle.lines_transcript.specs.Told.{told_line}
use Rattle.program_run.specs.declared.last_line.LastLine.TheVariants as last
use Rattle.program_run.specs.declared.act_list.Verdict.{Verdict}
use Rattle.program_run.specs.declared.act_list.Verdict.TheVariants as verdict
use Rattle.program_run.specs.Lines.{lines_of}
use Rattle.program_run.specs.Endings.{Answer, with_front, ending, without_end}

-- the most acts of a list
abbrev pub act_limit : ℕ
act_limit = 100000

-- an act after so many others
abbrev pub verdict_of_act : ℕ → Act → Verdict
verdict_of_act count act = if nat_lt count act_limit then verdict.Play act else verdict.Full

abbrev pub verdict_of_line : ℕ → Option Line → Verdict
verdict_of_line count None = verdict.Bad
verdict_of_line count (Some line.End) = verdict.End
verdict_of_line count (Some (line.Act act)) = verdict_of_act count act
verdict_of_line count (Some (line.Header limits)) = verdict.Bad
verdict_of_line count (Some (line.Session found)) = verdict.Bad
verdict_of_line count (Some (line.Stamped stamp found)) = verdict.Bad
verdict_of_line count (Some (line.Shell step)) = verdict.Bad

-- what a line is, after so many acts
unfoldable pub verdict_of : ℕ → List ℕ → Verdict
verdict_of count raw = verdict_of_line count (line_of Acts raw)

-- the line of one event, with its line feed
abbrev pub told_text : ℕ → Told → List ℕ
told_text number told = told_line number told ++ 10 ∷ []

-- the lines of what the act with this number tells
abbrev pub act_text : ℕ → List Told → List ℕ
act_text number tolds = flat_map (told_text number) tolds

-- what a line makes of the answer for the lines after it, after so many acts: `text` is what an act
-- tells, `rest` the answer after it
abbrev pub by_verdict : ℕ → Verdict → (Act → List ℕ) → (Act → Answer) → Answer
by_verdict n verdict.Bad text rest = ending (last.Bad (n + 1))
by_verdict n verdict.End text rest = ending (last.End n)
by_verdict n verdict.Full text rest = ending (last.Full n)
by_verdict n (verdict.Play act) text rest = with_front (text act) (rest act)

-- the answer for the lines that are left after the acts of a list, the newest first
unfoldable pub answer_from : Bool → List Act → List (List ℕ) → Answer
answer_from cut log [] = without_end cut (length log)
answer_from cut log (raw ∷ lines) =
    by_verdict (length log) (verdict_of (length log) raw)
    (λ act. act_text (length log + 1) (told act log)) (λ act. answer_from cut (act ∷ log) lines)

-- the answer for an act list of which at most the limit was read
unfoldable pub answer_of : Bool → List ℕ → Answer
answer_of cut input = answer_from cut [] (lines_of cut input)
