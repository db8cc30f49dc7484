use Rattle.std.proofs.Common.{rules}
use Rattle.hub_calls.proofs.PassesGrow.{saw_legal}
use Rattle.hub_calls.proofs.FrontsTaken.{closes, finds-none, fills, lacks, takes-more}
use Rattle.hub_calls.proofs.take.take_as_writer.Goals as goal

pub returns-in-Bytes-clause-saw : goal.returns-in-Bytes-clause-saw
returns-in-Bytes-clause-saw g c =
    saw_legal c.args.hub.now.limits c.args.pass.now.seat c.take.new.pass.seat.seen _ c.take.ensures.legal

pub returns-in-Bytes-clause-takes : goal.returns-in-Bytes-clause-takes
returns-in-Bytes-clause-takes g c =
    takes-more c.args.hub.now.limits c.args.pass.now c.take.new.pass c.args.bytes.now _ c.take.new.buf
    c.take.new.tokens c.take.result c.take.ensures.pass c.requires.writes c.take.ensures.legal c.in-Bytes.count _
    c.in-Bytes.is (search rules)

pub returns-in-Empty-clause-saw : goal.returns-in-Empty-clause-saw
returns-in-Empty-clause-saw g c =
    saw_legal c.args.hub.now.limits c.args.pass.now.seat c.take.new.pass.seat.seen _ c.take.ensures.legal

pub returns-in-Empty-clause-takes : goal.returns-in-Empty-clause-takes
returns-in-Empty-clause-takes g c =
    finds-none c.args.hub.now.limits c.args.pass.now c.take.new.pass c.args.bytes.now _ c.take.new.buf
    c.take.new.tokens c.take.result c.take.ensures.pass c.requires.writes c.take.ensures.legal c.in-Empty.is

pub returns-in-Closed-clause-saw : goal.returns-in-Closed-clause-saw
returns-in-Closed-clause-saw g c =
    saw_legal c.args.hub.now.limits c.args.pass.now.seat c.take.new.pass.seat.seen _ c.take.ensures.legal

pub returns-in-Closed-clause-takes : goal.returns-in-Closed-clause-takes
returns-in-Closed-clause-takes g c =
    closes c.args.hub.now.limits c.args.pass.now c.take.new.pass c.args.bytes.now _ c.take.new.buf
    c.take.new.tokens c.take.result c.take.ensures.pass c.requires.writes c.take.ensures.legal c.in-Closed.is

pub returns-in-JournalFull-clause-saw : goal.returns-in-JournalFull-clause-saw
returns-in-JournalFull-clause-saw g c =
    saw_legal c.args.hub.now.limits c.args.pass.now.seat c.take.new.pass.seat.seen _ c.take.ensures.legal

pub returns-in-JournalFull-clause-takes : goal.returns-in-JournalFull-clause-takes
returns-in-JournalFull-clause-takes g c =
    fills c.args.hub.now.limits c.args.pass.now c.take.new.pass c.args.bytes.now _ c.take.new.buf
    c.take.new.tokens c.take.result c.take.ensures.pass c.requires.writes c.take.ensures.legal
    c.in-JournalFull.kept c.in-JournalFull.is

pub returns-in-NoMemory-clause-saw : goal.returns-in-NoMemory-clause-saw
returns-in-NoMemory-clause-saw g c =
    saw_legal c.args.hub.now.limits c.args.pass.now.seat c.take.new.pass.seat.seen _ c.take.ensures.legal

pub returns-in-NoMemory-clause-takes : goal.returns-in-NoMemory-clause-takes
returns-in-NoMemory-clause-takes g c =
    lacks c.args.hub.now.limits c.args.pass.now c.take.new.pass c.args.bytes.now _ c.take.new.buf
    c.take.new.tokens c.take.result c.take.ensures.pass c.requires.writes c.take.ensures.legal c.in-NoMemory.is
