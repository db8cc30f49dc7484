use Rattle.trial_laws.proofs.ShownTexts.{shown_texts_are_batches}
use Rattle.trial_laws.proofs.shown_texts_are_batches.Goals as goal

pub returns : goal.returns
returns c = shown_texts_are_batches
