use Rattle.std.proofs.Common.{rules}
use Rattle.program_run.proofs.writing.write_due.Goals as goal

pub returns-clause-due : goal.returns-clause-due
returns-clause-due g c = search rules
