use Rattle.std.proofs.Common.{rules}
use Rattle.kbd_grab.proofs.down.turn.Goals as goal

pub returns-in-Some-true-clause-route : goal.returns-in-Some-true-clause-route
returns-in-Some-true-clause-route c = search rules
