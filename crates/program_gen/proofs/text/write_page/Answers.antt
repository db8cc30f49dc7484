use Rattle.std.proofs.Common.{rules}
use Rattle.program_gen.proofs.text.write_page.Goals as goal

pub returns-clause-empty : goal.returns-clause-empty
returns-clause-empty g c = search rules
