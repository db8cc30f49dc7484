use Rattle.client_side.proofs.SamePlace.{answer_is}
use Rattle.client_side.proofs.field_state.change.Goals as goal

pub returns-clause-answer : goal.returns-clause-answer
returns-clause-answer c = answer_is _ _ _ _ c.edit.ensures.step c.edit.ensures.unchanged
