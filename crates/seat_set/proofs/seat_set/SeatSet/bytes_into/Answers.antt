use Rattle.session_text.specs.declared.line.SessionLine.TheVariants as sessions
use Rattle.session_text.specs.declared.seat_line.SeatLine.TheVariants.{One}
use Rattle.seat_set.proofs.SeatsBegun.{none_begun}
use Rattle.seat_set.proofs.seat_set.SeatSet.bytes_into.Goals as goal

pub returns-then-self-clause-part : goal.returns-then-self-clause-part
returns-then-self-clause-part c =
    none_begun (One c.args.seat (sessions.Bytes c.args.peer c.args.piece.now)) c.args.self.now.seats
