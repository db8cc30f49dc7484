use Rattle.std.proofs.Common.{subst, Err}
use Rattle.std.specs.Arc.{arc_value}
use Rattle.hub_lock.specs.Passes.{HubId}
use Rattle.serve_run.specs.Started.{IsGivenBack}
use Rattle.serve_run.specs.Unserved.{IsGoneAlone}
use Rattle.serve_run.proofs.LinksStart.{none_of_two}
use Rattle.serve_run.proofs.PassesBack.{made_nothing}
use Rattle.serve_run.proofs.StartsCounted.{may_lack_memory, no_starts}
use Rattle.serve_run.proofs.start.start_joined.Goals as goal

pub returns-in-Err-clause-started : goal.returns-in-Err-clause-started
returns-in-Err-clause-started g c =
    let hub = arc_value c.args.hub.now in
    let root = c.args.root.now in
    let middle = c.take_reader_back.new.root in
    let after = c.take_back.new.root in
    let reads = c.args.reader.seat.number in
    none_of_two hub c.args.root.now (g.W.Spawner.started c.args.spawner.now) c.args.reader.seat.number
    c.args.writer.seat.number (g.S.LinkSource.number c.args.link.source) c.take_reader_back.new.root c.take_back.new.root
    c.in-Err.stop c.requires.out
    (may_lack_memory c.in-Err.stop c.in-Err.ensures.why)
    (subst (λ (h : HubId). IsGivenBack h root middle reads) c.deref.ensures c.take_reader_back.ensures.back)
    (subst (λ (h : HubId). IsGoneAlone h.limits middle.seen reads) c.deref.ensures c.take_reader_back.ensures.gone)
    (subst (λ (h : HubId). IsGivenBack h middle after c.args.writer.seat.number) c.deref-in-Err.ensures
    c.take_back.ensures.back)
    (made_nothing c.take_back.new.root.seen c.args.writer.seat c.requires.fresh_writer c.take_back.ensures.theirs)

pub returns-in-Err-clause-jobs : goal.returns-in-Err-clause-jobs
returns-in-Err-clause-jobs g c =
    let why = c.in-Err.ensures.why in no_starts c.args.spawner.now (Err c.in-Err.stop) (λ is. absurd (cc))
