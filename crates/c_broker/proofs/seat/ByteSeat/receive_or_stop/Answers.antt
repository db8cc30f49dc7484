use Rattle.std.proofs.Common.{◌++◌}
use Rattle.c_broker.specs.Seated.{steps_of, waiting}
use Rattle.c_broker.proofs.WatchedOn.{heard_both}
use Rattle.c_broker.proofs.StoppedPeers.{stops_plays, stops_keeps, stops_held}
use Rattle.c_broker.proofs.seat.ByteSeat.receive_or_stop.Goals as goal

pub returns-in-Err-clause-plays : goal.returns-in-Err-clause-plays
returns-in-Err-clause-plays c =
    let old = c.args.self.now in
    stops_plays c.args.peer c.args.stamp
    (steps_of c.args.peer (waiting old.held c.args.peer) c.args.piece.now c.args.sent.now) old.broker
    c.receive_steps.new.self.broker c.stop.new.self.broker c.in-Err.why c.stop.result c.stop.ensures.why
    c.in-Err.ensures.plays c.stop.ensures.broker

pub returns-in-Err-clause-hears : goal.returns-in-Err-clause-hears
returns-in-Err-clause-hears c =
    let old = c.args.self.now in
    let mid = c.receive_steps.new.self in
    let new = c.stop.new.self in
    heard_both old.broker mid.broker new.broker old.ears mid.ears new.ears c.receive_steps.ensures.hears
    c.stop.ensures.hears

pub returns-in-Err-clause-keeps : goal.returns-in-Err-clause-keeps
returns-in-Err-clause-keeps c =
    let old = c.args.self.now in
    stops_keeps old.held c.receive_steps.new.self.held c.stop.new.self.held c.args.peer
    (waiting old.held c.args.peer ++ c.args.piece.now) c.in-Err.why c.stop.result c.stop.ensures.why
    c.in-Err.ensures.keeps c.stop.ensures.held

pub returns-in-Err-clause-stopped : goal.returns-in-Err-clause-stopped
returns-in-Err-clause-stopped c =
    let old = c.args.self.now in
    stops_held old.held c.receive_steps.new.self.held c.stop.new.self.held c.args.peer
    (waiting old.held c.args.peer ++ c.args.piece.now) c.in-Err.why c.stop.result c.stop.ensures.why
    c.in-Err.ensures.keeps c.stop.ensures.held
