use Rattle.law_record.proofs.LinesRead.{recorded_is_read}
use Rattle.law_record.proofs.LinesOfSteps.{recorded_has_step_lines}
use Rattle.law_record.proofs.recorded_session_is_read.Goals as goal

pub returns-clause-law : goal.returns-clause-law
returns-clause-law c = recorded_is_read

pub returns-clause-steps : goal.returns-clause-steps
returns-clause-steps c = recorded_has_step_lines
