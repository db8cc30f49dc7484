-- The text of a recorded session, in form 2: the lines of a journal's steps, each with its entry's
-- stamp before it.
use Rattle.std.specs.Prelude.{◌≡◌, ℕ, List, [], ◌∷◌, ◌++◌, codes}
use Rattle.std.specs.List.{flat_map}
use Rattle.broker_steps.specs.EndCause.TheVariants.{Gone, Bad, Full}
use Rattle.broker_steps.specs.Role.TheVariants.{App}
use Rattle.broker_steps.specs.declared.limits.Limits.{Limits}
use Rattle.broker_steps.specs.declared.stamp.Stamp.{Stamp}
use Rattle.broker_steps.specs.declared.step.ShellStep.TheVariants as shells
use Rattle.session_text.specs.declared.line.Form.TheVariants.{Session2}
use Rattle.session_text.specs.declared.line.Line.{Line}
use Rattle.session_text.specs.declared.line.Line.TheVariants.{Header, Stamped, End}
use Rattle.session_text.specs.declared.line.SessionLine.{SessionLine}
use Rattle.session_text.specs.declared.line.SessionLine.TheVariants as lines
use Rattle.session_text.specs.Grammar.{spelling}
use Rattle.session_text.specs.Steps.{message_bytes}
use Rattle.broker_model.specs.declared.journal.Entry.{Entry}
use Rattle.broker_model.specs.declared.journal.Entry.TheVariants as entries

-- the line of an outer step; an end that follows has none
abbrev pub entry_lines : Entry → List SessionLine
entry_lines (entries.Join role) = lines.Join role ∷ []
entry_lines (entries.Message q id opcode body) = lines.Bytes q (message_bytes id opcode body) ∷ []
entry_lines (entries.Tokens q tokens) = lines.Tokens q tokens ∷ []
entry_lines (entries.BadSize q head) = lines.Bytes q head ∷ []
entry_lines (entries.End q Gone) = lines.Gone q ∷ []
entry_lines (entries.End q Bad) = []
entry_lines (entries.End q Full) = []
entry_lines (entries.Shell step) = lines.Shell step ∷ []
entry_lines (entries.Took q n) = lines.Take q n ∷ []

-- a line with its line feed
abbrev pub text_line : Line → List ℕ
text_line line = spelling Session2 line ++ 10 ∷ []

-- the lines of all steps, the oldest first
abbrev pub steps_text : List Entry → List Stamp → List ℕ
steps_text (e ∷ older) (s ∷ before) =
    steps_text older before ++ flat_map (λ line. text_line (Stamped s line)) (entry_lines e)
steps_text _ _ = []

-- the recorded session of a journal with its stamps, both with the newest first
abbrev pub recorded : Limits → List Entry → List Stamp → List ℕ
recorded limits journal stamps =
    text_line (Header limits) ++ (steps_text journal stamps ++ text_line End)

-- a worked row: an application joins, a key passes, two tokens come, and an end follows, which has
-- no line
abbrev pub SessionIsRecorded : Type 0
SessionIsRecorded =
    recorded (record { entries = 8; store = 100; weight = 134217728 })
    (entries.End 1 Full ∷ entries.Tokens 1 (7 ∷ 8 ∷ []) ∷ entries.Shell (shells.Key 5 30 1)
    ∷ entries.Join App ∷ [])
    (record { moment = 7; author = 0 } ∷ record { moment = 7; author = 3 }
    ∷ record { moment = 6; author = 1 } ∷ record { moment = 5; author = 3 } ∷ [])
    ≡ codes "session 2 8 100 134217728" ++ 10 ∷
    (codes "5 3 join app" ++ 10 ∷ (codes "6 1 key 5 30 1" ++ 10
    ∷ (codes "7 3 tokens 1 7 8" ++ 10 ∷ (codes "end" ++ 10 ∷ []))))
