use Rattle.std.proofs.Common.{rules}
use Rattle.serve_record.proofs.entry_lines.end.Goals as goal

pub returns-in-Gone-clause-lines : goal.returns-in-Gone-clause-lines
returns-in-Gone-clause-lines c = search rules
