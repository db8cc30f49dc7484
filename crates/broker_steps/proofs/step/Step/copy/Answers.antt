use Rattle.std.proofs.Common.{rules}
use Rattle.broker_steps.proofs.step.Step.copy.Goals as goal

pub returns-in-Take : goal.returns-in-Take
returns-in-Take c = search rules
