use Rattle.trial_threads.proofs.JobsRun.{is_run}
use Rattle.trial_threads.proofs.side_by_side.run_one.Goals as goal

pub play_job-running-requires : goal.play_job-running-requires
play_job-running-requires g c = record { ready = c.requires.idle.ready }

pub returns : goal.returns
returns g c =
    let e = c.play_job-running.ensures in
    is_run c.args.hub.now c.args.running.now c.play_job-running.new.job c.play_job-running.result c.requires.idle e.runs
    e.goes
