use Rattle.std.proofs.Common.{refl}
use Rattle.relay_model.proofs.rows.hold_rows.Goals as goal

pub returns-clause-displaced_field_commits : goal.returns-clause-displaced_field_commits
returns-clause-displaced_field_commits c = refl

pub returns-clause-displaced_field_disables : goal.returns-clause-displaced_field_disables
returns-clause-displaced_field_disables c = refl

pub returns-clause-displaced_field_returns : goal.returns-clause-displaced_field_returns
returns-clause-displaced_field_returns c = refl

pub returns-clause-displaced_field_dropped : goal.returns-clause-displaced_field_dropped
returns-clause-displaced_field_dropped c = refl
