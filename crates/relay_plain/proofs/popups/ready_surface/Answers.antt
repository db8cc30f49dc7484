use Rattle.std.proofs.Common.{rules}
use Rattle.relay_plain.proofs.popups.ready_surface.Goals as goal

pub returns-then-is_same : goal.returns-then-is_same
returns-then-is_same c = search rules
