use Rattle.trial_threads.proofs.JobsDrained.{all_drained, still_of}
use Rattle.trial_threads.proofs.drain.drain.Goals as goal

pub drain_fields-requires : goal.drain_fields-requires
drain_fields-requires g c =
    still_of c.args.hub.now c.least_for_method-least.result c.args.jobs.now c.drain_methods.new.jobs
    c.drain_methods.ensures c.requires

pub returns : goal.returns
returns g c =
    all_drained c.args.hub.now c.least_for_method-least.result c.least_for_fields-least.result c.args.jobs.now
    c.drain_methods.new.jobs c.drain_fields.new.jobs c.least_for_method-least.ensures c.least_for_fields-least.ensures
    c.drain_methods.ensures c.drain_fields.ensures
