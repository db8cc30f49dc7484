use Rattle.law_shown.proofs.TrialsShown.{written_texts_are_batches}
use Rattle.law_shown.proofs.written_texts_are_batches.Goals as goal

pub returns : goal.returns
returns c = written_texts_are_batches
