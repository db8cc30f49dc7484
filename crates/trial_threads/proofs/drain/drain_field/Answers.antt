use Rattle.trial_threads.proofs.JobsDrained.{field_drained}
use Rattle.trial_threads.proofs.drain.drain_field.Goals as goal

pub returns-in-Field : goal.returns-in-Field
returns-in-Field g c =
    let e = c.answer_all-running.ensures in
    field_drained c.args.hub.now c.args.least c.args.running.now c.in-Field.job c.answer_all-running.new.job
    c.in-Ok.goes_on c.answer_all-running.result c.in-Ok.is c.in-Field.is c.requires e.keeps e.rests e.least
