use Rattle.session_text.specs.declared.line.SessionLine.TheVariants as lines
use Rattle.std.proofs.Common.{take}
use Rattle.program_run.proofs.SeatPieces.{one_line}
use Rattle.program_run.proofs.seats.read_seat_piece.Goals as goal

pub returns-in_ok-peer-in-Some-One-default-clause-read : goal.returns-in_ok-peer-in-Some-One-default-clause-read
returns-in_ok-peer-in-Some-One-default-clause-read c =
    let found = c.in_ok-peer-in-Some-One-default in
    let address = rw c.in-Some-One-default.field-0-0-is at c.in-Some-One-default.ensures in
    one_line c.args.count c.args.raw.now c.in-Some-One-default.rest.now c.in-Some-One-default.seat
    (lines.Bytes found.peer (take found.length c.read_piece.new.piece)) c.if-raw-gt-LINE_LIMIT.false address
    found.ensures.read
