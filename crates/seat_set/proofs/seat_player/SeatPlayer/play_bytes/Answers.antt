use Rattle.session_text.specs.declared.line.SessionLine.TheVariants as lines
use Rattle.seat_set.proofs.SeatsBegun.{untouched_begun}
use Rattle.seat_set.proofs.seat_player.SeatPlayer.play_bytes.Goals as goal

pub returns-then-is_some-clause-part : goal.returns-then-is_some-clause-part
returns-then-is_some-clause-part g c =
    untouched_begun (lines.Bytes c.args.peer c.args.piece.now) c.args.self.now
