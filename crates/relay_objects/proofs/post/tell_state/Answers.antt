use Rattle.std.proofs.Common.{rules}
use Rattle.relay_objects.proofs.post.tell_state.Goals as goal

pub returns : goal.returns
returns g c = search rules
