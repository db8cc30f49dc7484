use Rattle.trial_laws.proofs.ScriptsOfBytes.{scripts_of_bytes}
use Rattle.trial_laws.proofs.scripts_are_of_bytes.Goals as goal

pub returns : goal.returns
returns c = scripts_of_bytes
