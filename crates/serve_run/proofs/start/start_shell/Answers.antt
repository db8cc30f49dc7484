use Rattle.std.proofs.Common.{ap, subst, Err, OnErr}
use Rattle.std.specs.Arc.{arc_value}
use Rattle.turn_lock.specs.Pairs.{NoneOf}
use Rattle.hub_lock.specs.Passes.{HubId, IsOf}
use Rattle.serve_jobs.specs.Tags.Part.{shell}
use Rattle.serve_jobs.specs.LinkTags.{tag_with}
use Rattle.serve_run.specs.LinkJobs.{job}
use Rattle.serve_run.specs.Started.{IsRootOf, IsGivenBack}
use Rattle.serve_run.specs.declared.stop.Stop.TheVariants as stops
use Rattle.serve_run.proofs.PassesBack.{made_nothing}
use Rattle.serve_run.proofs.StartsCounted.{lacks_thread, no_starts, starts_one}
use Rattle.serve_run.proofs.LinksStart.{shell_by, shell_given_back}
use Rattle.serve_run.proofs.start.start_shell.Goals as goal

pub returns-in_default-clause-started : goal.returns-in_default-clause-started
returns-in_default-clause-started g c =
    let split = c.shell_pass-pass.new.root in
    let after = c.take_back.new.root in
    let number = c.shell_pass-pass.ensures.number in
    shell_given_back (arc_value c.args.hub.now) c.args.root.now (g.W.Spawner.started c.args.spawner.now)
    (g.S.LinkSource.number c.args.link.source) split after
    stops.NoMemory c.shell_pass-pass.ensures.left tt
    (subst (IsGivenBack (arc_value c.args.hub.now) split after) number
    (subst (λ (h : HubId). IsGivenBack h split after c.shell_pass-pass.result.number) c.deref-in_default.ensures
    c.take_back.ensures.back))
    (subst (λ n. NoneOf n after.seen) number
    (made_nothing after.seen c.shell_pass-pass.result c.shell_pass-pass.ensures.fresh c.take_back.ensures.theirs))

pub returns-clause-started : goal.returns-clause-started
returns-clause-started g c =
    let hub = arc_value c.args.hub.now in
    let link = g.S.LinkSource.number c.args.link.source in
    let pass = c.shell_pass-pass.result in
    let split = c.shell_pass-pass.new.root in
    let made = c.shell_pass-pass.ensures in
    let after = c.start_job.new.root in
    let run = c.start_job.ensures in
    let own = subst (λ (h : HubId). IsOf h pass) c.deref.ensures made.own in
    shell_by hub c.args.root.now (g.W.Spawner.started c.args.spawner.now) link split after
    (g.W.Spawner.started c.start_job.new.spawner) (tag_with pass 0 link shell) c.start_job.result
    (subst (λ (h : HubId). IsRootOf h split) c.deref.ensures made.root) made.left
    (ap (λ n. job n link shell) made.number) (record { turn = own.0; limits = own.1 }) run.same run.started
    (subst (λ n. OnErr c.start_job.result (IsGivenBack hub split after n)) made.number
    (subst (λ (h : HubId). OnErr c.start_job.result (IsGivenBack h split after pass.number)) c.deref-2.ensures
    run.back))
    (subst (λ n. OnErr c.start_job.result (NoneOf n after.seen)) made.number run.made)
    run.none (lacks_thread c.start_job.result run.why)

pub returns-in_default-clause-jobs : goal.returns-in_default-clause-jobs
returns-in_default-clause-jobs g c = no_starts c.args.spawner.now (Err stops.NoMemory) (λ is. absurd (cc))

pub returns-clause-jobs : goal.returns-clause-jobs
returns-clause-jobs g c =
    let run = c.start_job.ensures in
    starts_one c.args.spawner.now c.start_job.new.spawner c.start_job.result run.before run.stays run.reports
    run.never_falls run.cause run.no_refusal run.why
