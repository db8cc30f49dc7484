use Rattle.std.proofs.Common.{rules}
use Rattle.broker_audience.proofs.marks.lowered.Goals as goal

pub returns-then-each-place : goal.returns-then-each-place
returns-then-each-place c = search rules
