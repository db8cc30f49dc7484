use Rattle.std.proofs.Common.{rules}
use Rattle.broker_audience.proofs.changes.change.Goals as goal

pub returns-in-Drop-clause-ok : goal.returns-in-Drop-clause-ok
returns-in-Drop-clause-ok c = search rules
