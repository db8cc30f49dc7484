-- What a run wrote and answered.
use Rattle.std.proofs.Common.{◌≡◌, ◌≢◌, ℕ, Bool, true, false, eqb, List, [], length, Option, Some, None, refl, sym, ap, ◌∙◌, subst, inl, inr, arith}
use Rattle.std.specs.Prelude.{IfSome}
use Rattle.std.specs.Io.KnownBytes.{Appends}
use Rattle.std.proofs.KnownBytes.{Appends-nil}
use Rattle.wio_core.specs.Io.{Rose}
use Rattle.program_run.specs.declared.status.Status.{Status}
use Rattle.program_run.specs.declared.status.Status.TheVariants as status
use Rattle.std.proofs.lemmas.Bool.{false≢true}
use Rattle.std.proofs.lemmas.List.{take_all}
use Rattle.program_run.specs.declared.command.Command.{Command}
use Rattle.program_run.specs.declared.command.Task.{Task}
use Rattle.program_run.specs.declared.command.Command.TheVariants as commands
use Rattle.program_run.specs.declared.command.Task.TheVariants as tasks
use Rattle.program_run.specs.Lines.{lines_of, lines_read, taken, is_cut}
use Rattle.program_run.specs.Endings.{Answer, IsDecided}
use Rattle.program_run.specs.Trials.{trial_lines}
use Rattle.program_run.specs.Writing.{IsCutShort}
use Rattle.program_run.specs.Transcript.{answer_from, answer_of}
use Rattle.program_run.specs.Session.{session_of_lines, session_answer}
use Rattle.program_run.specs.Migrating.{migrated_lines, migrated_answer}
use Rattle.program_run.specs.Audit.{audit_answer, audit_of_lines}
use Rattle.program_run.specs.Seats.{seats_of_lines, seats_answer}
use Rattle.program_run.specs.Explain.{explain_of_lines, explain_answer}
use Rattle.lines_explained.specs.declared.explainer.Lines.{Lines}
use Rattle.program_run.specs.Ran.{GrowsByFront, Ran, answer_read}
use Rattle.program_run.specs.LineByLine.{LineByLine}
use Rattle.program_run.specs.declared.reading.TheConstants.{INPUT_LIMIT, MIGRATE_LIMIT}
use Rattle.program_run.specs.Run.{task_of, task_answer, line_command, reads_nothing, limit_of, status_of, output_of, answer_by, answer_lines, answer_where}

-- by its lines, the answer for an input is that of its command

acts_read : (left : Option (List ℕ)) (reads reads' : ℕ) (held held' : Option (List ℕ)) (writes writes' : ℕ)
    (result : Status)
    → Ran (answer_read INPUT_LIMIT (λ cut lines. answer_from cut [] lines)) left reads reads' held held' writes writes'
    result
    → Ran (answer_by commands.ReplayActs) left reads reads' held held' writes writes' result
unfolding answer_by answer_of lines_read
acts_read left reads reads' held held' writes writes' result ran = ran

pub acts_ran : (command : Command) (left : Option (List ℕ)) (reads reads' : ℕ) (held held' : Option (List ℕ))
    (writes writes' : ℕ) (result : Status) → command ≡ commands.ReplayActs
    → Ran (answer_read INPUT_LIMIT (λ cut lines. answer_from cut [] lines)) left reads reads' held held' writes writes'
    result
    → Ran (answer_by command) left reads reads' held held' writes writes' result
acts_ran command left reads reads' held held' writes writes' result is ran =
    subst (λ c. Ran (answer_by c) left reads reads' held held' writes writes' result) (sym is)
    (acts_read left reads reads' held held' writes writes' result ran)

session_read : (left : Option (List ℕ)) (reads reads' : ℕ) (held held' : Option (List ℕ)) (writes writes' : ℕ)
    (result : Status)
    → Ran (answer_read INPUT_LIMIT session_of_lines) left reads reads' held held' writes writes' result
    → Ran (answer_by commands.Replay) left reads reads' held held' writes writes' result
unfolding answer_by session_answer lines_read
session_read left reads reads' held held' writes writes' result ran = ran

pub session_ran : (command : Command) (left : Option (List ℕ)) (reads reads' : ℕ) (held held' : Option (List ℕ))
    (writes writes' : ℕ) (result : Status) → command ≡ commands.Replay
    → Ran (answer_read INPUT_LIMIT session_of_lines) left reads reads' held held' writes writes' result
    → Ran (answer_by command) left reads reads' held held' writes writes' result
session_ran command left reads reads' held held' writes writes' result is ran =
    subst (λ c. Ran (answer_by c) left reads reads' held held' writes writes' result) (sym is)
    (session_read left reads reads' held held' writes writes' result ran)

migrated_read : (left : Option (List ℕ)) (reads reads' : ℕ) (held held' : Option (List ℕ)) (writes writes' : ℕ)
    (result : Status)
    → Ran (answer_read MIGRATE_LIMIT migrated_lines) left reads reads' held held' writes writes' result
    → Ran (answer_by commands.Migrate) left reads reads' held held' writes writes' result
unfolding answer_by migrated_answer lines_read
migrated_read left reads reads' held held' writes writes' result ran = ran

pub migrated_ran : (command : Command) (left : Option (List ℕ)) (reads reads' : ℕ) (held held' : Option (List ℕ))
    (writes writes' : ℕ) (result : Status) → command ≡ commands.Migrate
    → Ran (answer_read MIGRATE_LIMIT migrated_lines) left reads reads' held held' writes writes' result
    → Ran (answer_by command) left reads reads' held held' writes writes' result
migrated_ran command left reads reads' held held' writes writes' result is ran =
    subst (λ c. Ran (answer_by c) left reads reads' held held' writes writes' result) (sym is)
    (migrated_read left reads reads' held held' writes writes' result ran)

pub acts_law : (command : Command) (left left' held held' : Option (List ℕ)) (result : Status) (read : List ℕ)
    → command ≡ commands.ReplayActs
    → LineByLine INPUT_LIMIT (λ cut lines. answer_from cut [] lines) left left' held held' result read
    → LineByLine (limit_of command) (answer_lines command) left left' held held' result read
acts_law command left left' held held' result read is law =
    subst (λ c. LineByLine (limit_of c) (answer_lines c) left left' held held' result read) (sym is) law

pub session_law : (command : Command) (left left' held held' : Option (List ℕ)) (result : Status) (read : List ℕ)
    → command ≡ commands.Replay → LineByLine INPUT_LIMIT session_of_lines left left' held held' result read
    → LineByLine (limit_of command) (answer_lines command) left left' held held' result read
session_law command left left' held held' result read is law =
    subst (λ c. LineByLine (limit_of c) (answer_lines c) left left' held held' result read) (sym is) law

pub migrated_law : (command : Command) (left left' held held' : Option (List ℕ)) (result : Status) (read : List ℕ)
    → command ≡ commands.Migrate → LineByLine MIGRATE_LIMIT migrated_lines left left' held held' result read
    → LineByLine (limit_of command) (answer_lines command) left left' held held' result read
migrated_law command left left' held held' result read is law =
    subst (λ c. LineByLine (limit_of c) (answer_lines c) left left' held held' result read) (sym is) law

seats_read : (left : Option (List ℕ)) (reads reads' : ℕ) (held held' : Option (List ℕ)) (writes writes' : ℕ)
    (result : Status)
    → Ran (answer_read INPUT_LIMIT seats_of_lines) left reads reads' held held' writes writes' result
    → Ran (answer_by commands.ReplaySeats) left reads reads' held held' writes writes' result
unfolding answer_by seats_answer lines_read
seats_read left reads reads' held held' writes writes' result ran = ran

pub seats_ran : (command : Command) (left : Option (List ℕ)) (reads reads' : ℕ) (held held' : Option (List ℕ))
    (writes writes' : ℕ) (result : Status) → command ≡ commands.ReplaySeats
    → Ran (answer_read INPUT_LIMIT seats_of_lines) left reads reads' held held' writes writes' result
    → Ran (answer_by command) left reads reads' held held' writes writes' result
seats_ran command left reads reads' held held' writes writes' result is ran =
    subst (λ c. Ran (answer_by c) left reads reads' held held' writes writes' result) (sym is)
    (seats_read left reads reads' held held' writes writes' result ran)

pub seats_law : (command : Command) (left left' held held' : Option (List ℕ)) (result : Status) (read : List ℕ)
    → command ≡ commands.ReplaySeats → LineByLine INPUT_LIMIT seats_of_lines left left' held held' result read
    → LineByLine (limit_of command) (answer_lines command) left left' held held' result read
seats_law command left left' held held' result read is law =
    subst (λ c. LineByLine (limit_of c) (answer_lines c) left left' held held' result read) (sym is) law

audit_read : (left : Option (List ℕ)) (reads reads' : ℕ) (held held' : Option (List ℕ)) (writes writes' : ℕ)
    (result : Status)
    → Ran (answer_read INPUT_LIMIT audit_of_lines) left reads reads' held held' writes writes' result
    → Ran (answer_by commands.Audit) left reads reads' held held' writes writes' result
unfolding answer_by audit_answer lines_read
audit_read left reads reads' held held' writes writes' result ran = ran

pub audit_ran : (command : Command) (left : Option (List ℕ)) (reads reads' : ℕ) (held held' : Option (List ℕ))
    (writes writes' : ℕ) (result : Status) → command ≡ commands.Audit
    → Ran (answer_read INPUT_LIMIT audit_of_lines) left reads reads' held held' writes writes' result
    → Ran (answer_by command) left reads reads' held held' writes writes' result
audit_ran command left reads reads' held held' writes writes' result is ran =
    subst (λ c. Ran (answer_by c) left reads reads' held held' writes writes' result) (sym is)
    (audit_read left reads reads' held held' writes writes' result ran)

pub audit_law : (command : Command) (left left' held held' : Option (List ℕ)) (result : Status) (read : List ℕ)
    → command ≡ commands.Audit → LineByLine INPUT_LIMIT audit_of_lines left left' held held' result read
    → LineByLine (limit_of command) (answer_lines command) left left' held held' result read
audit_law command left left' held held' result read is law =
    subst (λ c. LineByLine (limit_of c) (answer_lines c) left left' held held' result read) (sym is) law

explain_read : (which : Lines) (left : Option (List ℕ)) (reads reads' : ℕ) (held held' : Option (List ℕ))
    (writes writes' : ℕ) (result : Status)
    → Ran (answer_read INPUT_LIMIT (explain_of_lines which)) left reads reads' held held' writes writes' result
    → Ran (answer_by (commands.Explain which)) left reads reads' held held' writes writes' result
unfolding answer_by explain_answer lines_read
explain_read which left reads reads' held held' writes writes' result ran = ran

pub explain_ran : (which : Lines) (command : Command) (left : Option (List ℕ)) (reads reads' : ℕ)
    (held held' : Option (List ℕ)) (writes writes' : ℕ) (result : Status) → command ≡ commands.Explain which
    → Ran (answer_read INPUT_LIMIT (explain_of_lines which)) left reads reads' held held' writes writes' result
    → Ran (answer_by command) left reads reads' held held' writes writes' result
explain_ran which command left reads reads' held held' writes writes' result is ran =
    subst (λ c. Ran (answer_by c) left reads reads' held held' writes writes' result) (sym is)
    (explain_read which left reads reads' held held' writes writes' result ran)

pub explain_law : (which : Lines) (command : Command) (left left' held held' : Option (List ℕ)) (result : Status)
    (read : List ℕ) → command ≡ commands.Explain which
    → LineByLine INPUT_LIMIT (explain_of_lines which) left left' held held' result read
    → LineByLine (limit_of command) (answer_lines command) left left' held held' result read
explain_law which command left left' held held' result read is law =
    subst (λ c. LineByLine (limit_of c) (answer_lines c) left left' held held' result read) (sym is) law

-- what was done of a task is what it owes

pub task_ran : (task other : Task) (left : Option (List ℕ)) (reads reads' : ℕ) (held held' : Option (List ℕ))
    (writes writes' : ℕ) (result : Status) → task ≡ other
    → Ran (task_answer other) left reads reads' held held' writes writes' result
    → Ran (task_answer task) left reads reads' held held' writes writes' result
task_ran task other left reads reads' held held' writes writes' result is ran =
    subst (λ t. Ran (task_answer t) left reads reads' held held' writes writes' result) (sym is) ran

-- an answer that was written, whole or in part

pub ran_all : (answer : List ℕ → Answer) (left : Option (List ℕ)) (reads reads' : ℕ) (held held' : Option (List ℕ))
    (writes writes' : ℕ) (text : List ℕ) (result : Status)
    → IfSome left (λ bytes. (text, result) ≡ answer bytes) → IsDecided result → Appends held held' text
    → Ran answer left reads reads' held held' writes writes' result
ran_all answer left reads reads' held held' writes writes' text result is decided wrote = record {
  front = front_all left is;
  decided = λ _. all left is;
  read_fault = λ e. absurd (subst IsDecided e decided);
  write_fault = λ e. absurd (subst IsDecided e decided);
  good_words = λ e. subst IsDecided e decided;
}
  where
    all : (left : Option (List ℕ)) → IfSome left (λ bytes. (text, result) ≡ answer bytes)
        → IfSome left (λ bytes. ((answer bytes).1 ≡ result) × Appends held held' (answer bytes).0)
    all None is = tt
    all (Some bytes) is = (ap (λ a. a.1) (sym is), subst (Appends held held') (ap (λ a. a.0) is) wrote)

    front_all : (left : Option (List ℕ)) → IfSome left (λ bytes. (text, result) ≡ answer bytes)
        → IfSome left (λ bytes. GrowsByFront held held' (answer bytes).0)
    front_all None is = tt
    front_all (Some bytes) is =
        subst (GrowsByFront held held') (ap (λ a. a.0) is)
        (length text, omega arith, subst (Appends held held') (sym (take_all (length text) text (omega arith))) wrote)

-- a front of it was written
pub ran_part : (answer : List ℕ → Answer) (left : Option (List ℕ)) (reads reads' : ℕ) (held held' : Option (List ℕ))
    (writes writes' : ℕ) (text : List ℕ) (s result : Status) → IfSome left (λ bytes. (text, s) ≡ answer bytes)
    → GrowsByFront held held' text → (result ≡ status.WriteFault → Rose writes writes') → IsCutShort result
    → Ran answer left reads reads' held held' writes writes' result
ran_part answer left reads reads' held held' writes writes' text s result is grew rose short = record {
  front = front_all left is;
  decided = λ h. absurd (undecided short h);
  read_fault = λ e. absurd (no_read short e);
  write_fault = rose;
  good_words = λ e. no_words short e;
}
  where
    front_all : (left : Option (List ℕ)) → IfSome left (λ bytes. (text, s) ≡ answer bytes)
        → IfSome left (λ bytes. GrowsByFront held held' (answer bytes).0)
    front_all None is = tt
    front_all (Some bytes) is = subst (GrowsByFront held held') (ap (λ a. a.0) is) grew

    undecided : IsCutShort result → IsDecided result → ⊥
    undecided (inl e) h = subst IsDecided e h
    undecided (inr e) h = subst IsDecided e h

    no_read : IsCutShort result → result ≡ status.ReadFault → ⊥
    no_read (inl e) f = (let both = sym e ∙ f in cc)
    no_read (inr e) f = (let both = sym e ∙ f in cc)

    no_words : IsCutShort result → result ≡ status.BadWords → ⊥
    no_words (inl e) f = (let both = sym e ∙ f in cc)
    no_words (inr e) f = (let both = sym e ∙ f in cc)

-- nothing was written

none_written : (answer : List ℕ → Answer) (left held : Option (List ℕ))
    → IfSome left (λ bytes. GrowsByFront held held (answer bytes).0)
none_written answer None held = tt
none_written answer (Some bytes) held = (0, omega arith, Appends-nil held)

pub ran_none : (answer : List ℕ → Answer) (left : Option (List ℕ)) (reads reads' : ℕ) (held : Option (List ℕ))
    (writes writes' : ℕ) → Rose reads reads' → Ran answer left reads reads' held held writes writes' status.ReadFault
ran_none answer left reads reads' held writes writes' rose = record {
  front = none_written answer left held;
  decided = λ h. absurd h;
  read_fault = λ e. rose;
  write_fault = λ e. absurd (cc e);
  good_words = λ e. cc e;
}

pub ran_short : (answer : List ℕ → Answer) (left : Option (List ℕ)) (reads reads' : ℕ) (held : Option (List ℕ))
    (writes writes' : ℕ) → Ran answer left reads reads' held held writes writes' status.NoMemory
ran_short answer left reads reads' held writes writes' = record {
  front = none_written answer left held;
  decided = λ h. absurd h;
  read_fault = λ e. absurd (cc e);
  write_fault = λ e. absurd (cc e);
  good_words = λ e. cc e;
}

-- a fact that no input changes
pub for_any : (left : Option (List ℕ)) (P : Type 0) → P → IfSome left (λ bytes. P)
for_any None P p = tt
for_any (Some bytes) P p = p

-- what is written of a script that was read whole is the answer for its lines

pub script_is : (left : Option (List ℕ)) (input : List ℕ) (answer : Answer) (cut : Bool)
    → cut ≡ eqb (length input) INPUT_LIMIT → IfSome left (λ bytes. input ≡ taken INPUT_LIMIT bytes)
    → answer ≡ trial_lines cut (lines_of cut input)
    → IfSome left (λ bytes. answer ≡ answer_read INPUT_LIMIT trial_lines bytes)
unfolding is_cut lines_read
script_is None input answer cut c i a = tt
script_is (Some bytes) input answer cut c i a =
    a ∙ ap (λ (b : Bool). trial_lines b (lines_of b input)) c
    ∙ ap (λ (v : List ℕ). trial_lines (eqb (length v) INPUT_LIMIT) (lines_of (eqb (length v) INPUT_LIMIT) v)) i

-- the call with its words

pub front_of : (task : Task) (words : List (List ℕ)) (left : Option (List ℕ)) (reads reads' : ℕ)
    (held held' : Option (List ℕ)) (writes writes' : ℕ) (result : Status)
    → task_of words ≡ Some task → Ran (task_answer task) left reads reads' held held' writes writes' result
    → IfSome left (λ bytes. GrowsByFront held held' (output_of words bytes))
unfolding output_of
front_of task words None reads reads' held held' writes writes' result e ran = tt
front_of task words (Some bytes) reads reads' held held' writes writes' result e ran =
    subst (λ o. GrowsByFront held held' (answer_where o bytes).0) (sym e) ran.front

pub decided_of : (task : Task) (words : List (List ℕ)) (left : Option (List ℕ)) (reads reads' : ℕ)
    (held held' : Option (List ℕ)) (writes writes' : ℕ) (result : Status)
    → task_of words ≡ Some task → Ran (task_answer task) left reads reads' held held' writes writes' result
    → IsDecided result
    → IfSome left (λ bytes. (status_of words bytes ≡ result) × Appends held held' (output_of words bytes))
unfolding output_of status_of
decided_of task words None reads reads' held held' writes writes' result e ran h = tt
decided_of task words (Some bytes) reads reads' held held' writes writes' result e ran h =
    subst (λ o. ((answer_where o bytes).1 ≡ result) × Appends held held' (answer_where o bytes).0) (sym e)
    (ran.decided h)

-- a status without a fault and with memory is decided
pub decides : (answer : List ℕ → Answer) (left : Option (List ℕ)) (reads reads' : ℕ) (held held' : Option (List ℕ))
    (writes writes' : ℕ) (result : Status)
    → Ran answer left reads reads' held held' writes writes' result → (Rose reads reads' → ⊥)
    → (Rose writes writes' → ⊥) → result ≢ status.NoMemory → IsDecided result
decides answer left reads reads' held held' writes writes' status.Ok ran r w m = tt
decides answer left reads reads' held held' writes writes' status.BadWords ran r w m = ran.good_words refl
decides answer left reads reads' held held' writes writes' status.BadSession ran r w m = tt
decides answer left reads reads' held held' writes writes' status.ReadFault ran r w m = r (ran.read_fault refl)
decides answer left reads reads' held held' writes writes' status.WriteFault ran r w m = w (ran.write_fault refl)
decides answer left reads reads' held held' writes writes' status.NoMemory ran r w m = m refl
decides answer left reads reads' held held' writes writes' status.JournalFull ran r w m = tt
decides answer left reads reads' held held' writes writes' status.InputLong ran r w m = tt
decides answer left reads reads' held held' writes writes' status.AuditNo ran r w m = tt

pub other_words : (words : List (List ℕ)) (left held : Option (List ℕ)) → task_of words ≡ None
    → IfSome left (λ bytes. (status_of words bytes ≡ status.BadWords) × Appends held held (output_of words bytes))
unfolding output_of status_of
other_words words None held e = tt
other_words words (Some bytes) held e =
    subst (λ o. ((answer_where o bytes).1 ≡ status.BadWords) × Appends held held (answer_where o bytes).0) (sym e)
    (refl, Appends-nil held)

-- what is owed to lines is owed by the commands that read line by line

pub task_law : (task : Task) (command : Command) (P : Command → Type 0) → task ≡ tasks.Lines command → P command
    → IfSome (line_command (Some task)) P
task_law task command P is law = subst (λ t. IfSome (line_command (Some t)) P) (sym is) law

pub no_law : (task other : Task) (P : Command → Type 0) → task ≡ other → line_command (Some other) ≡ None
    → IfSome (line_command (Some task)) P
no_law task other P is none =
    subst (λ t. IfSome (line_command (Some t)) P) (sym is) (subst (λ o. IfSome o P) (sym none) tt)

-- of the tasks that read, nothing is said of one that doesn't
pub must_read : (task other : Task) (P : Type 0) → task ≡ other → reads_nothing (Some other) ≡ false
    → reads_nothing (Some task) ≡ true → P
must_read task other P is reads nothing =
    let same : reads_nothing (Some task) ≡ reads_nothing (Some other) = ap (λ t. reads_nothing (Some t)) is in
    absurd (false≢true (sym reads ∙ sym same ∙ nothing))

pub law_of : (named : Option Task) (task : Task) (P : Command → Type 0) → named ≡ Some task
    → IfSome (line_command (Some task)) P → IfSome (line_command named) P
law_of named task P is law = subst (λ o. IfSome (line_command o) P) (sym is) law

pub law_of_none : (named : Option Task) (P : Command → Type 0) → named ≡ None → IfSome (line_command named) P
law_of_none named P is = subst (λ o. IfSome (line_command o) P) (sym is) tt
