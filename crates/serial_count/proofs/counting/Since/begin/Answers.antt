use Rattle.std.proofs.Common.{rules}
use Rattle.serial_count.proofs.counting.Since.begin.Goals as goal

pub returns : goal.returns
returns c = search rules
