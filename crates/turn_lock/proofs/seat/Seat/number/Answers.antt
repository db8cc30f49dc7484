use Rattle.std.proofs.Common.{rules}
use Rattle.turn_lock.proofs.seat.Seat.number.Goals as goal

pub returns : goal.returns
returns g c = search rules
