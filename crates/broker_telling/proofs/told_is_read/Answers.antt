use Rattle.broker_telling.proofs.ToldIsRead.{told_read}
use Rattle.broker_telling.proofs.told_is_read.Goals as goal

pub returns : goal.returns
returns c = told_read
