use Rattle.std.proofs.Common.{rules}
use Rattle.field_state.proofs.field.is_place.Goals as goal

pub returns-then-at-ge0 : goal.returns-then-at-ge0
returns-then-at-ge0 c = search rules
