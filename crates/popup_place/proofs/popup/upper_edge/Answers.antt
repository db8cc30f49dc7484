use Rattle.std.proofs.Common.{rules}
use Rattle.popup_place.proofs.popup.upper_edge.Goals as goal

pub returns-then-fits_at-2-clause-rule : goal.returns-then-fits_at-2-clause-rule
returns-then-fits_at-2-clause-rule c = search rules
