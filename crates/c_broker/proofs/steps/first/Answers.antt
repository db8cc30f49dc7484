use Rattle.std.proofs.Common.{◌++◌}
use Rattle.wl_wire.specs.Streams.{begun}
use Rattle.c_broker.proofs.WatchedOn.{heard_none}
use Rattle.c_broker.proofs.BytesOnWay.{held_first, took_first, stops_first, gives_bad}
use Rattle.c_broker.proofs.steps.first.Goals as goal

pub returns-in-Err-clause-goes : goal.returns-in-Err-clause-goes
returns-in-Err-clause-goes c =
    let raw = c.in-Message.raw in
    stops_first c.args.peer c.args.stamp raw.id raw.opcode raw.body.now
    (begun c.args.cutter.now ++ c.args.piece.now) c.args.piece.now c.in-Message.used
    c.args.shared.now c.message.new.shared (begun c.next.new.self) c.in-Err.why c.in-Message.ensures
    c.in-Err.ensures.plays

pub returns-in-Ok-message-clause-goes : goal.returns-in-Ok-message-clause-goes
returns-in-Ok-message-clause-goes c =
    let raw = c.held.result in
    took_first c.args.peer c.args.stamp raw.id raw.opcode raw.body.now
    (begun c.args.cutter.now ++ c.args.piece.now) c.args.piece.now c.in-Held.used
    c.args.shared.now c.message-in-Held.new.shared (begun c.next.new.self)
    (held_first c.next.new.self c.held.ensures.id c.held.ensures.opcode c.held.ensures.body c.in-Held.ensures.1)
    c.in-Ok-message.ensures.plays

pub returns-in-Err-message-clause-goes : goal.returns-in-Err-message-clause-goes
returns-in-Err-message-clause-goes c =
    let raw = c.held.result in
    stops_first c.args.peer c.args.stamp raw.id raw.opcode raw.body.now
    (begun c.args.cutter.now ++ c.args.piece.now) c.args.piece.now c.in-Held.used
    c.args.shared.now c.message-in-Held.new.shared (begun c.next.new.self) c.in-Err-message.why
    (held_first c.next.new.self c.held.ensures.id c.held.ensures.opcode c.held.ensures.body c.in-Held.ensures.1)
    c.in-Err-message.ensures.plays

pub returns-in-Nothing-clause-hears : goal.returns-in-Nothing-clause-hears
returns-in-Nothing-clause-hears c = heard_none c.args.shared.now c.args.ears.now

pub returns-in-Ok-bad_size-clause-goes : goal.returns-in-Ok-bad_size-clause-goes
returns-in-Ok-bad_size-clause-goes c =
    gives_bad c.args.peer c.args.stamp c.in-BadSize.head (begun c.args.cutter.now ++ c.args.piece.now)
    (begun c.next.new.self) c.args.shared.now c.bad_size.new.shared c.in-BadSize.ensures c.in-Ok-bad_size.ensures.plays
