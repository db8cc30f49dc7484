use Rattle.std.proofs.Common.{rules}
use Rattle.broker_steps.proofs.step.PeerStep.copy.Goals as goal

pub returns-in_ok-copy-in-Message : goal.returns-in_ok-copy-in-Message
returns-in_ok-copy-in-Message c = search rules
