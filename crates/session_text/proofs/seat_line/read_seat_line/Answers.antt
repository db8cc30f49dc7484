use Rattle.session_text.proofs.SeatLines.{read_valid}
use Rattle.session_text.proofs.seat_line.read_seat_line.Goals as goal

pub returns-in-Some-clause-valid : goal.returns-in-Some-clause-valid
returns-in-Some-clause-valid c =
    read_valid c.args.count c.args.line.now
    (c.in-Some.address, c.in-Some.rest.now) c.read_for.result c.in-Some.ensures c.read_for.ensures
