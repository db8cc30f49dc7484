use Rattle.std.proofs.Common.{rules}
use Rattle.relay_plain.proofs.keys.standing_after.Goals as goal

pub returns-then-is_at : goal.returns-then-is_at
returns-then-is_at c = search rules
