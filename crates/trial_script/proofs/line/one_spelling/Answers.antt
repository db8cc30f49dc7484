use Rattle.trial_script.proofs.ScriptsReadBack.{reads_only, reads_each}
use Rattle.trial_script.proofs.line.one_spelling.Goals as goal

pub returns : goal.returns
returns c = record { only = reads_only; each = reads_each }
