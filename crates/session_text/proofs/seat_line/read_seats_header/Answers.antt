use Rattle.session_text.proofs.SeatLines.{many_header}
use Rattle.session_text.proofs.seat_line.read_seats_header.Goals as goal

pub returns-in_default : goal.returns-in_default
returns-in_default c = record { exact = many_header c.args.line.now c.in_default.ensures.many; valid = tt }
