use Rattle.std.proofs.Common.{rules}
use Rattle.kbd_grab.proofs.grab.Grab.repeat.Goals as goal

pub returns-clause-told : goal.returns-clause-told
returns-clause-told c = search rules
