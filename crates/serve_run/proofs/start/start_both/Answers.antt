use Rattle.std.proofs.Common.{refl, sym, ap, subst, Ok, Err}
use Rattle.serve_jobs.specs.Tags.Part.{reader, writer}
use Rattle.serve_jobs.specs.LinkTags.{tag_with}
use Rattle.serve_run.specs.LinkJobs.{job}
use Rattle.serve_run.specs.Started.{BothStarted}
use Rattle.serve_run.proofs.LinksStart.{none_of_two, first_of_two}
use Rattle.serve_run.proofs.PassesBack.{made_nothing}
use Rattle.serve_run.proofs.StartsCounted.{may_lack, lacks_thread, starts_one, starts_more}
use Rattle.serve_run.proofs.start.start_both.Goals as goal

pub returns-in-Err-clause-started : goal.returns-in-Err-clause-started
returns-in-Err-clause-started g c =
    let before = g.W.Spawner.started c.args.spawner.now in
    let reads = c.args.reader.pass.seat.number in
    let writes = c.args.writer.pass.seat.number in
    let link = g.S.LinkSource.number c.args.reader.source in
    subst (λ tags. BothStarted c.args.hub.now c.args.root.now c.take_back.new.root before tags reads writes link
    (Err c.in-Err.stop))
    (sym c.in-Err.ensures.none)
    (none_of_two c.args.hub.now c.args.root.now before reads writes link c.start_job.new.root c.take_back.new.root
    c.in-Err.stop
    c.requires.out (may_lack c.in-Err.stop c.in-Err.ensures.why) c.in-Err.ensures.back c.in-Err.ensures.made
    c.take_back.ensures.back
    (made_nothing c.take_back.new.root.seen c.args.writer.pass.seat c.args.writer.fresh c.take_back.ensures.theirs))

pub returns-clause-started : goal.returns-clause-started
returns-clause-started g c =
    let reads = c.args.reader.pass.seat in
    let writes = c.args.writer.pass.seat in
    let link = g.S.LinkSource.number c.args.reader.source in
    let two = c.start_job-2.ensures in
    first_of_two c.args.hub.now c.args.root.now (g.W.Spawner.started c.args.spawner.now) reads.number writes.number
    link c.start_job.new.root c.start_job-2.new.root (g.W.Spawner.started c.start_job.new.spawner)
    (g.W.Spawner.started c.start_job-2.new.spawner) (tag_with reads c.args.reader.pass.peer link reader)
    (tag_with writes c.args.writer.pass.peer (g.K.LinkSink.number c.args.writer.sink) writer) c.start_job-2.result
    c.requires.out c.requires.root
    c.in_default.ensures.same c.in_default.ensures.started refl
    (record { turn = c.requires.reads.0; limits = c.requires.reads.1 })
    (ap (λ n. job writes.number n writer) (sym c.requires.one))
    (record { turn = c.requires.writes.0; limits = c.requires.writes.1 })
    two.same two.started two.back two.made two.none (lacks_thread c.start_job-2.result two.why)

pub returns-in-Err-clause-jobs : goal.returns-in-Err-clause-jobs
returns-in-Err-clause-jobs g c =
    let e = c.start_job.ensures in
    starts_one c.args.spawner.now c.start_job.new.spawner (Err c.in-Err.stop) tt c.in-Err.ensures.stays e.reports
    e.never_falls c.in-Err.ensures.cause tt c.in-Err.ensures.why

pub returns-clause-jobs : goal.returns-clause-jobs
returns-clause-jobs g c =
    let one = c.start_job.ensures in
    let two = c.start_job-2.ensures in
    starts_more c.args.spawner.now c.start_job.new.spawner c.start_job-2.new.spawner c.start_job-2.result
    (starts_one c.args.spawner.now c.start_job.new.spawner (Ok tt) c.in_default.ensures.before tt one.reports
    one.never_falls tt c.in_default.ensures.no_refusal tt)
    (starts_one c.start_job.new.spawner c.start_job-2.new.spawner c.start_job-2.result two.before two.stays two.reports
    two.never_falls two.cause two.no_refusal two.why)
