use Rattle.law_shown.proofs.TrialsShown.{trials_are_answered}
use Rattle.law_shown.proofs.trials_are_answered.Goals as goal

pub returns : goal.returns
returns c = trials_are_answered
