use Rattle.broker_telling.proofs.AllHeard.{all_heard}
use Rattle.broker_telling.proofs.all_is_heard.Goals as goal

pub returns : goal.returns
returns c = all_heard
