use Rattle.law_shown.proofs.InputsRead.{inputs_are_scripts}
use Rattle.law_shown.proofs.inputs_are_scripts.Goals as goal

pub returns : goal.returns
returns c = inputs_are_scripts
