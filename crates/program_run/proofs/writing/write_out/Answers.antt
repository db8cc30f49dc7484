use Rattle.std.proofs.Common.{rules}
use Rattle.program_run.proofs.writing.write_out.Goals as goal

pub returns-clause-whole : goal.returns-clause-whole
returns-clause-whole g c = search rules
