use Rattle.std.proofs.Common.{rules}
use Rattle.serve_run.proofs.start.start_job.Goals as goal

pub returns-in-Ok-clause-reports : goal.returns-in-Ok-clause-reports
returns-in-Ok-clause-reports g c = search rules
