-- What the whole call answers and writes.
use Rattle.std.specs.Prelude.{ℕ, Bool, true, false, ◌&&◌, if◌then◌else◌, List, [], ◌∷◌, codes, Option, Some, None, is_some, option_map}
use Rattle.std.specs.Str.{bytes_eq}
use Rattle.program_run.specs.declared.status.Status.{Status}
use Rattle.program_run.specs.declared.status.Status.TheVariants as status
use Rattle.program_run.specs.declared.command.Command.{Command}
use Rattle.program_run.specs.declared.command.Command.TheVariants as commands
use Rattle.program_run.specs.declared.command.Task.{Task}
use Rattle.program_run.specs.declared.command.Task.TheVariants as tasks
use Rattle.session_text.specs.Words.{long_number_of}
use Rattle.program_run.specs.Lines.{input_limit, migrate_limit, taken, is_cut}
use Rattle.program_run.specs.Endings.{Answer}
use Rattle.program_run.specs.Transcript.{answer_of, answer_from}
use Rattle.program_run.specs.Session.{session_answer, session_of_lines}
use Rattle.program_run.specs.Seats.{seats_answer, seats_of_lines}
use Rattle.program_run.specs.Explain.{explain_answer, explain_of_lines}
use Rattle.lines_explained.specs.declared.explainer.Lines.TheVariants.{All, BadOnly}
use Rattle.program_run.specs.Migrating.{migrated_answer, migrated_lines}
use Rattle.program_run.specs.Audit.{audit_answer, audit_of_lines}
use Rattle.program_run.specs.Ran.{answer_read}
use Rattle.program_run.specs.Trials.{trial_lines}
use Rattle.program_run.specs.Generated.{counts_answer, text_answer}

-- the command that one word names, of those that read line by line
abbrev pub command_named : List ℕ → Option Command
command_named word =
    if bytes_eq word (codes "replay") then Some commands.Replay
    else if bytes_eq word (codes "replay-acts") then Some commands.ReplayActs
    else if bytes_eq word (codes "migrate") then Some commands.Migrate
    else if bytes_eq word (codes "replay-seats") then Some commands.ReplaySeats
    else if bytes_eq word (codes "audit") then Some commands.Audit
    else if bytes_eq word (codes "explain") then Some (commands.Explain All)
    else None

-- what one word names
abbrev pub task_named : List ℕ → Option Task
task_named word =
    if bytes_eq word (codes "trial") then Some tasks.Trial
    else option_map (λ command. tasks.Lines command) (command_named word)

-- `gen N`, where N is a decimal number below 2 ^ 64 without a zero in front
abbrev pub gen_named : (word number : List ℕ) → Option Task
gen_named word number =
    if bytes_eq word (codes "gen") then option_map (λ n. tasks.Gen n) (long_number_of number)
    else None

-- `gen N text`
abbrev pub gen_text_named : (word number last : List ℕ) → Option Task
gen_text_named word number last =
    if bytes_eq word (codes "gen") && bytes_eq last (codes "text")
    then option_map (λ n. tasks.GenText n) (long_number_of number)
    else None

-- `explain --bad-only`
abbrev pub explain_named : (word option : List ℕ) → Option Task
explain_named word option =
    if bytes_eq word (codes "explain") && bytes_eq option (codes "--bad-only")
    then Some (tasks.Lines (commands.Explain BadOnly))
    else None

-- the first of two, if it is there
abbrev pub either_task : Option Task → Option Task → Option Task
either_task (Some task) other = Some task
either_task None other = other

-- what two words name
abbrev pub two_named : (word second : List ℕ) → Option Task
two_named word second = either_task (explain_named word second) (gen_named word second)

-- what the words name, if they do
abbrev pub task_of : List (List ℕ) → Option Task
task_of (word ∷ []) = task_named word
task_of (word ∷ second ∷ []) = two_named word second
task_of (word ∷ number ∷ last ∷ []) = gen_text_named word number last
task_of _ = None

-- the words are in the grammar
abbrev pub is_command : List (List ℕ) → Bool
is_command words = is_some (task_of words)

-- the command that reads line by line, if it is one
abbrev pub line_command : Option Task → Option Command
line_command (Some (tasks.Lines command)) = Some command
line_command _ = None

-- the command that the words name, if they name one that reads line by line
abbrev pub command_of : List (List ℕ) → Option Command
command_of words = line_command (task_of words)

-- a generated session reads nothing
abbrev pub reads_nothing : Option Task → Bool
reads_nothing (Some (tasks.Gen number)) = true
reads_nothing (Some (tasks.GenText number)) = true
reads_nothing _ = false

-- the answer of a command for lines, whether or not the input was cut off behind them
abbrev pub answer_lines : Command → Bool → List (List ℕ) → Answer
answer_lines commands.Replay cut lines = session_of_lines cut lines
answer_lines commands.ReplayActs cut lines = answer_from cut [] lines
answer_lines commands.Migrate cut lines = migrated_lines cut lines
answer_lines commands.ReplaySeats cut lines = seats_of_lines cut lines
answer_lines commands.Audit cut lines = audit_of_lines cut lines
answer_lines (commands.Explain which) cut lines = explain_of_lines which cut lines

-- the most bytes of its input that a command reads
abbrev pub limit_of : Command → ℕ
limit_of commands.Replay = input_limit
limit_of commands.ReplayActs = input_limit
limit_of commands.Migrate = migrate_limit
limit_of commands.ReplaySeats = input_limit
limit_of commands.Audit = input_limit
limit_of (commands.Explain which) = input_limit

-- what a command makes of an input of which at most the limit was read
abbrev pub answer_to : Command → Bool → List ℕ → Answer
answer_to commands.Replay cut input = session_answer cut input
answer_to commands.ReplayActs cut input = answer_of cut input
answer_to commands.Migrate cut input = migrated_answer cut input
answer_to commands.ReplaySeats cut input = seats_answer cut input
answer_to commands.Audit cut input = audit_answer cut input
answer_to (commands.Explain which) cut input = explain_answer which cut input

-- what a command writes for the bytes of an input, and its status
unfoldable pub answer_by : Command → List ℕ → Answer
answer_by command bytes =
    answer_to command (is_cut (limit_of command) bytes) (taken (limit_of command) bytes)

-- what is written of the bytes of an input, and the status
abbrev pub task_answer : Task → List ℕ → Answer
task_answer (tasks.Lines command) bytes = answer_by command bytes
task_answer tasks.Trial bytes = answer_read input_limit trial_lines bytes
task_answer (tasks.Gen number) bytes = counts_answer number
task_answer (tasks.GenText number) bytes = text_answer number

-- the answer of words that name something, or nothing
abbrev pub answer_where : Option Task → List ℕ → Answer
answer_where None bytes = ([], status.BadWords)
answer_where (Some task) bytes = task_answer task bytes

-- the status of a run with these words over this input
unfoldable pub status_of : List (List ℕ) → List ℕ → Status
status_of words bytes = (answer_where (task_of words) bytes).1

-- what it writes
unfoldable pub output_of : List (List ℕ) → List ℕ → List ℕ
output_of words bytes = (answer_where (task_of words) bytes).0
