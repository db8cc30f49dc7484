use Rattle.std.proofs.lemmas.Result.{err_from_is_err_and}
use Rattle.seat_set.specs.Laws.{lines_played}
use Rattle.audit_run.specs.Taking.{audit_limits, takes_from}
use Rattle.audit_run.proofs.TakesOnWay.{one_peer, peer_stopped, peers_over}
use Rattle.audit_run.proofs.taking.take_from_all.Goals as goal

pub returns-in_err-take_all : goal.returns-in_err-take_all
returns-in_err-take_all c =
    let p = err_from_is_err_and c.from_residual.result c.from_residual.ensures.1 in
    let least = c.in-Some.ensures in
    rw (p.1, p.2)
    (λ all o. let w = c.peers.invariant.on all o in
    peer_stopped (lines_played audit_limits (takes_from 1 c.args.most) c.args.player.now.play) all c.peers.above
    c.args.most c.in-Some.number c.in_err-take_all.field-0.0 c.peers.player c.take_all.new.player c.peers.gatherer
    c.take_all.new.gatherer w least.0 least.1 least.2 (c.in_err-take_all.ensures all w.goes))

pub peers-preserved : goal.peers-preserved
peers-preserved c =
    let least = c.in-Some.ensures in
    record {
      within = least.1;
      on = λ all o.
          let w = c.peers.invariant.on all o in
          one_peer (lines_played audit_limits (takes_from 1 c.args.most) c.args.player.now.play) all c.peers.above
          c.args.most c.in-Some.number c.peers.player c.take_all.new.player c.peers.gatherer c.take_all.new.gatherer w
          least.0 least.1 least.2 (c.in_ok-take_all.ensures all w.goes);
    }

pub returns : goal.returns
returns c = λ all o.
    peers_over (lines_played audit_limits (takes_from 1 c.args.most) c.args.player.now.play) all c.peers.above
    c.args.most c.peers.player c.peers.gatherer (c.peers.invariant.on all o) c.peers.invariant.within
    c.in_default.ensures
