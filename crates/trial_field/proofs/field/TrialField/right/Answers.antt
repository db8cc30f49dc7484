use Rattle.std.proofs.Common.{string_bytes}
use Rattle.trial_field.proofs.BoundariesAreChars.{right_at}
use Rattle.trial_field.proofs.field.TrialField.right.Goals as goal

pub returns-clause-step : goal.returns-clause-step
returns-clause-step c =
    let text = string_bytes c.self.inside.text in
    let moved = right_at text c.self.inside.cursor _ c.self.invariant.at_boundary.0
    (rw c.deref.ensures at c.character_behind-place.ensures.value) in
    rw (← c.self.view_is, moved.0, moved.1)
