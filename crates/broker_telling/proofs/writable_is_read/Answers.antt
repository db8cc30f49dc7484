use Rattle.broker_telling.proofs.WritableRead.{writable_read}
use Rattle.broker_telling.proofs.writable_is_read.Goals as goal

pub returns : goal.returns
returns c = writable_read
