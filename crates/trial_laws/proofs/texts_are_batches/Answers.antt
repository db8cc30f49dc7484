use Rattle.trial_laws.proofs.TextsBatched.{texts_batched}
use Rattle.trial_laws.proofs.texts_are_batches.Goals as goal

pub returns : goal.returns
returns c = texts_batched
