use Rattle.std.proofs.Common.{rules}
use Rattle.relay_objects.proofs.listed.unlist.Goals as goal

pub returns-clause-fields : goal.returns-clause-fields
returns-clause-fields c = search rules
