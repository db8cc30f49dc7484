use Rattle.std.proofs.Common.{rules}
use Rattle.relay_objects.proofs.told.tell_place.Goals as goal

pub returns : goal.returns
returns g c = search rules
