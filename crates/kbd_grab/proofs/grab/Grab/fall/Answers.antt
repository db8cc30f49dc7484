use Rattle.std.proofs.Common.{rules}
use Rattle.kbd_grab.proofs.grab.Grab.fall.Goals as goal

pub returns-clause-falls : goal.returns-clause-falls
returns-clause-falls c = search rules
