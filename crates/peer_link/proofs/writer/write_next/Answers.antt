use Rattle.std.proofs.Common.{◌≡◌, ◌<◌, ℕ, List, length, take, sym, subst, ap₂}
use Rattle.std.specs.Io.KnownBytes.{Appends}
use Rattle.desc_frame.specs.Frames.{frame, spelling}
use Rattle.peer_link.proofs.StepsMade.{saw-legal}
use Rattle.peer_link.proofs.TakesWritten.{closes, fills, lacks, wrote, wrote-part}
use Rattle.peer_link.proofs.writer.write_next.Goals as goal

pub returns-in-Ok-clause-writes_on : goal.returns-in-Ok-clause-writes_on
returns-in-Ok-clause-writes_on g c = λ held s.
    let lent = c.wait_take_into.new.room in
    let same : spelling (frame c.bytes.result.now c.tokens.result.now) ≡ spelling (frame lent.bytes lent.tokens) =
    ap₂ (λ (bs : List ℕ) (ts : List ℕ). spelling (frame bs ts)) c.bytes.ensures c.tokens.ensures in
    wrote c.args.hub.now.limits c.args.pass.now c.wait_take_into.new.pass lent
    c.wait_take_into.result c.wait_take_into.ensures.pass c.requires.writes
    c.wait_take_into.ensures.legal
    held (g.K.Sink.held c.args.sink.now) (g.K.Sink.held c.put.new.sink) c.in-Bytes.field-0 c.in-Bytes.field-1
    c.in-Bytes.is s
    (subst (Appends (g.K.Sink.held c.args.sink.now) (g.K.Sink.held c.put.new.sink)) same c.in-Ok.ensures.whole)

pub returns-in-Err-clause-writes_on : goal.returns-in-Err-clause-writes_on
returns-in-Err-clause-writes_on g c = λ held s.
    let lent = c.wait_take_into.new.room in
    let same : spelling (frame c.bytes.result.now c.tokens.result.now) ≡ spelling (frame lent.bytes lent.tokens) =
    ap₂ (λ (bs : List ℕ) (ts : List ℕ). spelling (frame bs ts)) c.bytes.ensures c.tokens.ensures in
    let cut = subst (λ (f : List ℕ). (n : ℕ) × (n < length f)
    × Appends (g.K.Sink.held c.args.sink.now) (g.K.Sink.held c.put.new.sink) (take n f)) same
    c.in-Err.ensures.prefix in
    wrote-part c.args.hub.now.limits c.args.pass.now c.wait_take_into.new.pass lent
    c.wait_take_into.result c.wait_take_into.ensures.pass c.requires.writes
    c.wait_take_into.ensures.legal
    held (g.K.Sink.held c.args.sink.now) (g.K.Sink.held c.put.new.sink) c.in-Bytes.field-0 c.in-Bytes.field-1 cut.0
    c.in-Bytes.is s cut.1 cut.2

pub returns-in-Closed-clause-writes_on : goal.returns-in-Closed-clause-writes_on
returns-in-Closed-clause-writes_on g c = λ held s.
    closes c.args.hub.now.limits c.args.pass.now c.wait_take_into.new.pass c.wait_take_into.new.room
    c.wait_take_into.result c.wait_take_into.ensures.pass c.requires.writes
    c.wait_take_into.ensures.legal
    held (g.K.Sink.held c.args.sink.now) c.in-Closed.is s

pub returns-in-JournalFull-clause-writes_on : goal.returns-in-JournalFull-clause-writes_on
returns-in-JournalFull-clause-writes_on g c = λ held s.
    fills c.args.hub.now.limits c.args.pass.now c.wait_take_into.new.pass c.wait_take_into.new.room
    c.wait_take_into.result c.wait_take_into.ensures.pass c.requires.writes
    c.wait_take_into.ensures.legal
    held (g.K.Sink.held c.args.sink.now) c.in-JournalFull.kept c.in-JournalFull.is s

pub returns-in-NoMemory-clause-writes_on : goal.returns-in-NoMemory-clause-writes_on
returns-in-NoMemory-clause-writes_on g c = λ held s.
    lacks c.args.hub.now.limits c.args.pass.now c.wait_take_into.new.pass c.wait_take_into.new.room
    c.wait_take_into.result c.wait_take_into.ensures.pass c.requires.writes
    c.wait_take_into.ensures.legal
    held (g.K.Sink.held c.args.sink.now) c.in-NoMemory.is s

pub returns-in-Ok-clause-saw : goal.returns-in-Ok-clause-saw
returns-in-Ok-clause-saw g c =
    saw-legal c.args.hub.now.limits c.args.pass.now.seat c.wait_take_into.new.pass.seat.seen _
    c.wait_take_into.ensures.legal

pub returns-in-Err-clause-saw : goal.returns-in-Err-clause-saw
returns-in-Err-clause-saw g c =
    saw-legal c.args.hub.now.limits c.args.pass.now.seat c.wait_take_into.new.pass.seat.seen _
    c.wait_take_into.ensures.legal

pub returns-in-Closed-clause-saw : goal.returns-in-Closed-clause-saw
returns-in-Closed-clause-saw g c =
    saw-legal c.args.hub.now.limits c.args.pass.now.seat c.wait_take_into.new.pass.seat.seen _
    c.wait_take_into.ensures.legal

pub returns-in-JournalFull-clause-saw : goal.returns-in-JournalFull-clause-saw
returns-in-JournalFull-clause-saw g c =
    saw-legal c.args.hub.now.limits c.args.pass.now.seat c.wait_take_into.new.pass.seat.seen _
    c.wait_take_into.ensures.legal

pub returns-in-NoMemory-clause-saw : goal.returns-in-NoMemory-clause-saw
returns-in-NoMemory-clause-saw g c =
    saw-legal c.args.hub.now.limits c.args.pass.now.seat c.wait_take_into.new.pass.seat.seen _
    c.wait_take_into.ensures.legal
