use Rattle.std.proofs.Common.{rules}
use Rattle.broker_steps.proofs.tokens.TokenList.push.Goals as goal

pub returns-clause-pushed : goal.returns-clause-pushed
returns-clause-pushed c = search rules
