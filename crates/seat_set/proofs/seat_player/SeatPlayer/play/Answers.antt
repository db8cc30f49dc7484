use Rattle.seat_set.proofs.SeatsBegun.{untouched_begun}
use Rattle.seat_set.proofs.seat_player.SeatPlayer.play.Goals as goal

pub returns-then-is_some-clause-part : goal.returns-then-is_some-clause-part
returns-then-is_some-clause-part g c = untouched_begun c.args.line.now c.args.self.now
