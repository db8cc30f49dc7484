use Rattle.std.proofs.Common.{rules}
use Rattle.broker_model.proofs.stamps.StampList.next.Goals as goal

pub returns : goal.returns
returns c = search rules

pub returns-then-follows : goal.returns-then-follows
returns-then-follows c = search rules
