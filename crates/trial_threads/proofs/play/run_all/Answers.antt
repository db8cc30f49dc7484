use Rattle.std.proofs.Common.{◌∙◌}
use Rattle.trial_threads.specs.Jobs.{IsRun}
use Rattle.trial_threads.specs.Drained.{GoesOn}
use Rattle.trial_threads.proofs.JobsListed.{pairs_length}
use Rattle.trial_threads.proofs.JobsPlayed.{have_drained, run_of}
use Rattle.trial_threads.proofs.play.run_all.Goals as goal

pub drain-requires : goal.drain-requires
drain-requires g c = run_of c.args.hub.now c.args.jobs.now c.run_jobs.new.jobs c.requires c.run_jobs.ensures

pub returns-clause-drained : goal.returns-clause-drained
returns-clause-drained g c typist types =
    have_drained c.args.hub.now typist c.args.jobs.now c.run_jobs.new.jobs c.drain.new.jobs types c.run_jobs.ensures
    c.drain.ensures

pub returns-clause-length : goal.returns-clause-length
returns-clause-length g c =
    pairs_length (GoesOn c.args.hub.now) c.run_jobs.new.jobs c.drain.new.jobs c.drain.ensures.goes
    ∙ pairs_length (IsRun c.args.hub.now) c.args.jobs.now c.run_jobs.new.jobs c.run_jobs.ensures
