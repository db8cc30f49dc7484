use Rattle.trial_laws.proofs.TextsBatched.{unpaused_have_all_relayed}
use Rattle.trial_laws.proofs.unpaused_have_all_relayed.Goals as goal

pub returns : goal.returns
returns c = unpaused_have_all_relayed
