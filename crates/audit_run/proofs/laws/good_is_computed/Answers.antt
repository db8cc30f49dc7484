use Rattle.audit_run.proofs.GoodComputed.{good_computed}
use Rattle.audit_run.proofs.laws.good_is_computed.Goals as goal

pub returns : goal.returns
returns c = good_computed
