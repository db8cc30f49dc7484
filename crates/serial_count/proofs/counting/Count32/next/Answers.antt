use Rattle.std.proofs.Common.{rules}
use Rattle.serial_count.proofs.counting.Count32.next.Goals as goal

pub returns-clause-number : goal.returns-clause-number
returns-clause-number c = search rules
