-- The numbers that the program exits with.
use Rattle.std.specs.Prelude.{ℕ}
use Rattle.program_run.specs.declared.status.Status.{Status}
use Rattle.program_run.specs.declared.status.Status.TheVariants as status

abbrev pub number_of : Status → ℕ
number_of status.Ok = 0
number_of status.BadWords = 2
number_of status.BadSession = 3
number_of status.ReadFault = 4
number_of status.WriteFault = 5
number_of status.NoMemory = 6
number_of status.JournalFull = 7
number_of status.InputLong = 11
number_of status.AuditNo = 12
