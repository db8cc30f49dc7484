use Rattle.trial_threads.proofs.JobsDrained.{method_drained}
use Rattle.trial_threads.proofs.drain.drain_method.Goals as goal

pub returns-in-Method : goal.returns-in-Method
returns-in-Method g c =
    let e = c.answer_all-running.ensures in
    method_drained c.args.hub.now c.args.least c.args.running.now c.in-Method.job c.answer_all-running.new.job
    c.in-Ok.goes_on c.answer_all-running.result c.in-Ok.is c.in-Method.is c.requires e.keeps e.goes e.least
