use Rattle.seat_set.proofs.PrintedStepsAlone.{printed_steps}
use Rattle.seat_set.proofs.laws.printed_steps.Goals as goal

pub returns : goal.returns
returns c = record { law = printed_steps }
