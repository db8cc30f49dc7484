use Rattle.std.proofs.Common.{subst, Some, Err}
use Rattle.std.specs.Arc.{arc_value}
use Rattle.hub_lock.specs.Passes.{HubId}
use Rattle.serve_run.specs.Started.{IsJoinedBy, IsNotJoined}
use Rattle.serve_run.specs.Refused.{WasRefused, stopped}
use Rattle.serve_run.proofs.LinksStart.{link_of_both, link_refused}
use Rattle.serve_run.proofs.StartsCounted.{no_starts, join_has_threads}
use Rattle.serve_run.proofs.start.start_peer.Goals as goal

pub returns-in-Ok-clause-started : goal.returns-in-Ok-clause-started
returns-in-Ok-clause-started g c =
    link_of_both (arc_value c.args.hub.now) c.args.root.now
    (g.W.Spawner.started c.args.spawner.now) (g.S.LinkSource.number c.args.link.source) c.join_peer.new.root
    c.start_joined.new.root (g.W.Spawner.started c.start_joined.new.spawner) c.args.role c.in-Ok.reader c.in-Ok.writer
    c.start_joined.result
    (subst (λ (h : HubId). IsJoinedBy h c.args.root.now c.join_peer.new.root c.args.role c.in-Ok.reader c.in-Ok.writer)
    c.deref.ensures
    c.in-Ok.ensures.joined)
    c.start_joined.ensures.started

pub returns-in-Err-clause-started : goal.returns-in-Err-clause-started
returns-in-Err-clause-started g c =
    link_refused (arc_value c.args.hub.now) c.args.root.now
    (g.W.Spawner.started c.args.spawner.now) (g.S.LinkSource.number c.args.link.source) c.join_peer.new.root
    c.args.role c.in-Err.stop
    (subst (λ (h : HubId). IsNotJoined h c.args.root.now c.join_peer.new.root) c.deref.ensures c.in-Err.ensures.refused)
    (subst (λ (h : HubId). WasRefused h.limits c.join_peer.new.root.seen (Some c.args.role) (stopped c.in-Err.stop))
    c.deref.ensures
    c.in-Err.ensures.met)

pub returns-in-Err-clause-jobs : goal.returns-in-Err-clause-jobs
returns-in-Err-clause-jobs g c =
    no_starts c.args.spawner.now (Err c.in-Err.stop) (join_has_threads c.in-Err.stop c.in-Err.ensures.why)
