use Rattle.relay_model.proofs.RelayErased.{relayed_without_boards}
use Rattle.relay_model.proofs.laws.boards_relay_nothing.Goals as goal

pub returns : goal.returns
returns c = relayed_without_boards
