use Rattle.broker_telling.proofs.ToldIsRead.{told_writable}
use Rattle.broker_telling.proofs.told_is_writable.Goals as goal

pub returns : goal.returns
returns c = told_writable
