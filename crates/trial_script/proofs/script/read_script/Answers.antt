use Rattle.trial_script.proofs.ScriptsRead.{read_holds}
use Rattle.trial_script.proofs.script.read_script.Goals as goal

pub returns-clause-valid : goal.returns-clause-valid
returns-clause-valid c = read_holds c.args.script.now c.read_whole.result c.read_whole.ensures
