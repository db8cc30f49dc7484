use Rattle.broker_model.proofs.BoardsMaySay.{boards_may_say}
use Rattle.broker_model.proofs.laws.board_law.Goals as goal

pub returns : goal.returns
returns c = boards_may_say
