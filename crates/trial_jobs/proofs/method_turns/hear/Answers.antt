use Rattle.std.proofs.Common.{Err, ap}
use Rattle.trial_jobs.proofs.method_turns.hear.Goals as goal

pub returns-in-Ok : goal.returns-in-Ok
returns-in-Ok c = c.in-Ok.ensures.ok

pub returns-in-Err-BadEvent : goal.returns-in-Err-BadEvent
returns-in-Err-BadEvent c = c.in-Err-BadEvent.ensures.bad (ap (λ f. Err f) c.in-Err-BadEvent.field-0-is)

pub returns-in-Err-NoMemory : goal.returns-in-Err-NoMemory
returns-in-Err-NoMemory c = c.in-Err-NoMemory.ensures.no_memory (ap (λ f. Err f) c.in-Err-NoMemory.field-0-is)
