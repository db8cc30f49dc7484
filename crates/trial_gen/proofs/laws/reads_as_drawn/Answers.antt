use Rattle.trial_gen.proofs.ScriptsDrawn.{reads}
use Rattle.trial_gen.proofs.laws.reads_as_drawn.Goals as goal

pub returns : goal.returns
returns c = record { law = reads }
