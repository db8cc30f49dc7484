use Rattle.std.proofs.Common.{sym, subst}
use Rattle.serve_jobs.specs.declared.link_job.LinkJob.{LinkJob}
use Rattle.serve_jobs.specs.LinkTags.{job_tag}
use Rattle.serve_run.specs.Unserved.{MadeBy}
use Rattle.serve_run.proofs.PassesBack.{made_nothing}
use Rattle.serve_run.proofs.start.take_job_back.Goals as goal

pub returns-in-Writer-clause-made : goal.returns-in-Writer-clause-made
returns-in-Writer-clause-made g c =
    subst (λ (j : LinkJob _ _ _ _ _ _ _). MadeBy c.args.hub.now.limits c.take_writer_back.new.root.seen (job_tag j).number
    (job_tag j).part)
    (sym c.in-Writer.is)
    (made_nothing c.take_writer_back.new.root.seen c.in-Writer.job.pass.seat c.in-Writer.job.fresh
    c.take_writer_back.ensures.theirs)

pub returns-in-Shell-clause-made : goal.returns-in-Shell-clause-made
returns-in-Shell-clause-made g c =
    subst (λ (j : LinkJob _ _ _ _ _ _ _). MadeBy c.args.hub.now.limits c.take_back.new.root.seen (job_tag j).number
    (job_tag j).part)
    (sym c.in-Shell.is)
    (made_nothing c.take_back.new.root.seen c.in-Shell.job.pass c.in-Shell.job.fresh c.take_back.ensures.theirs)
