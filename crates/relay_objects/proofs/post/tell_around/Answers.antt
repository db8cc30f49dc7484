use Rattle.std.proofs.Common.{rules}
use Rattle.relay_objects.proofs.post.tell_around.Goals as goal

pub returns-in-Some : goal.returns-in-Some
returns-in-Some g c = search rules
