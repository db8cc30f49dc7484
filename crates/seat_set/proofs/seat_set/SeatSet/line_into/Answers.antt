use Rattle.seat_set.proofs.SeatsBegun.{none_begun}
use Rattle.seat_set.proofs.seat_set.SeatSet.line_into.Goals as goal

pub returns-then-self-clause-part : goal.returns-then-self-clause-part
returns-then-self-clause-part c = none_begun c.args.line.now c.args.self.now.seats
