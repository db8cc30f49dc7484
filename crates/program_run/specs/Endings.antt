-- Answers: what is written, and the status. Each ends with a last line, which decides the status.
use Rattle.std.specs.Prelude.{ℕ, ◌+◌, ◌-◌, Bool, true, false, if◌then◌else◌, List, ◌++◌, codes, length, take}
use Rattle.std.specs.Fmt.{decimal}
use Rattle.program_run.specs.declared.status.Status.{Status}
use Rattle.program_run.specs.declared.status.Status.TheVariants as status
use Rattle.program_run.specs.declared.last_line.LastLine.{LastLine}
use Rattle.program_run.specs.declared.last_line.LastLine.TheVariants as last

-- what is written, and the status
abbrev pub Answer : Type 0
Answer = List ℕ × Status

-- a text before the text of an answer
abbrev pub with_front : List ℕ → Answer → Answer
with_front front answer = (front ++ answer.0, answer.1)

abbrev pub end_line : ℕ → List ℕ
end_line n = codes "end " ++ decimal n ++ codes "\n"

abbrev pub bad_line : ℕ → List ℕ
bad_line n = codes "bad line " ++ decimal n ++ codes "\n"

abbrev pub full_line : ℕ → List ℕ
full_line n = codes "journal full " ++ decimal n ++ codes "\n"

abbrev pub long_line : List ℕ
long_line = codes "input too long\n"

abbrev pub yes_line : ℕ → List ℕ
yes_line n = codes "yes " ++ decimal n ++ codes "\n"

abbrev pub no_line : ℕ → List ℕ
no_line n = codes "no " ++ decimal n ++ codes "\n"

-- a last line alone, and its status
abbrev pub ending : LastLine → Answer
ending (last.End n) = (end_line n, status.Ok)
ending last.Over = (codes "end\n", status.Ok)
ending last.OverFull = (codes "end\n", status.JournalFull)
ending (last.Bad n) = (bad_line n, status.BadSession)
ending (last.Full n) = (full_line n, status.JournalFull)
ending last.Long = (long_line, status.InputLong)
ending (last.Yes n) = (yes_line n, status.Ok)
ending (last.No n) = (no_line n, status.AuditNo)

-- where no line is left after so many that count
abbrev pub without_end : Bool → ℕ → Answer
without_end cut n = ending (if cut then last.Long else last.Bad (n + 1))

-- the statuses that the input decides
abbrev pub IsDecided : Status → Type 0
IsDecided status.Ok = Unit {0}
IsDecided status.BadSession = Unit {0}
IsDecided status.JournalFull = Unit {0}
IsDecided status.InputLong = Unit {0}
IsDecided status.AuditNo = Unit {0}
IsDecided _ = ⊥

-- the status of an input whose lines decide nothing up to the limit of input bytes
abbrev pub is_long : Status → Bool
is_long status.InputLong = true
is_long _ = false

-- the output of lines for which this is the answer where the input is cut off behind them: without
-- the last line where none of them decides
abbrev pub shown : Answer → List ℕ
shown answer =
    if is_long answer.1 then take (length answer.0 - length long_line) answer.0 else answer.0
