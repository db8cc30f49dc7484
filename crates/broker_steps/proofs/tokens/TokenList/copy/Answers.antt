use Rattle.std.proofs.Common.{rules}
use Rattle.broker_steps.proofs.tokens.TokenList.copy.Goals as goal

pub returns : goal.returns
returns c = search rules
