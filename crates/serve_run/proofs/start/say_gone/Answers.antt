use Rattle.std.proofs.Common.{◌≡◌, Some, subst}
use Rattle.hub_lock.specs.Histories.{reader_of}
use Rattle.serve_run.proofs.GoneAlone.{says_gone, has_gone}
use Rattle.serve_run.proofs.start.say_gone.Goals as goal

pub returns-clause-says : goal.returns-clause-says
returns-clause-says g c =
    says_gone c.args.hub.now.limits c.args.pass.now c.submit.new.pass c.submit.result c.requires.fresh
    c.submit.ensures.pass c.submit.ensures.joined c.submit.ensures.legal
    (subst (λ q. reader_of c.submit.new.pass.seat.seen q ≡ Some c.submit.new.pass.seat.number) c.peer.ensures.peer
    c.peer.ensures.reads)

pub returns-clause-reads : goal.returns-clause-reads
returns-clause-reads g c =
    subst (λ q. reader_of c.submit.new.pass.seat.seen q ≡ Some c.submit.new.pass.seat.number) c.peer.ensures.peer
    c.peer.ensures.reads

pub returns-clause-ended : goal.returns-clause-ended
returns-clause-ended g c =
    has_gone c.args.hub.now.limits c.args.pass.now c.submit.new.pass c.submit.result
    c.submit.ensures.pass c.submit.ensures.joined c.submit.ensures.legal
