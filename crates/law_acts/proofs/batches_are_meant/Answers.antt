use Rattle.law_acts.proofs.Meant.{activations_keep_their_field, batches_are_meant}
use Rattle.law_acts.proofs.batches_are_meant.Goals as goal

pub returns-clause-fields : goal.returns-clause-fields
returns-clause-fields c = activations_keep_their_field

pub returns-clause-batches : goal.returns-clause-batches
returns-clause-batches c = batches_are_meant
