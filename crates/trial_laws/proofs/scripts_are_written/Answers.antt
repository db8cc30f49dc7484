use Rattle.trial_laws.proofs.ScriptsWritten.{scripts_are_written}
use Rattle.trial_laws.proofs.scripts_are_written.Goals as goal

pub returns : goal.returns
returns c = scripts_are_written
