-- What is written of a generated session, and the status.
use Rattle.std.specs.Prelude.{ℕ}
use Rattle.program_gen.specs.Summary.{summary_of}
use Rattle.program_gen.specs.Texts.{text_of}
use Rattle.program_run.specs.declared.status.Status.TheVariants as status
use Rattle.program_run.specs.Endings.{Answer}

-- the line with the counts of the session of n
abbrev pub counts_answer : ℕ → Answer
counts_answer n = (summary_of n, status.Ok)

-- the session of n
abbrev pub text_answer : ℕ → Answer
text_answer n = (text_of n, status.Ok)
