use Rattle.broker_core.specs.Taking.{standing_of}
use Rattle.c_broker.specs.Seated.{absent, steps_of, waiting}
use Rattle.c_broker.proofs.WatchedOn.{heard_none}
use Rattle.c_broker.proofs.StoppedPeers.{received_by}
use Rattle.c_broker.proofs.seat.ByteSeat.receive.Goals as goal

pub returns-in-Some-clause-told : goal.returns-in-Some-clause-told
returns-in-Some-clause-told c = heard_none c.args.self.now.broker c.args.self.now.ears

pub returns-clause-received : goal.returns-clause-received
returns-clause-received c =
    let old = c.args.self.now in
    let call = c.receive_or_stop-answer in
    received_by (absent (standing_of old.broker.journal c.args.peer)) c.args.peer c.args.stamp
    (steps_of c.args.peer (waiting old.held c.args.peer) c.args.piece.now c.args.sent.now) old.broker
    call.new.self.broker c.let_go.new.self.broker call.result call.ensures.plays c.let_go.ensures.gone
