use Rattle.compose_method.proofs.PressesType.{presses_go_on}
use Rattle.compose_method.proofs.laws.presses_go_on.Goals as goal

pub returns : goal.returns
returns c = presses_go_on
