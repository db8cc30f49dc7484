use Rattle.std.proofs.Common.{sym, arith}
use Rattle.session_text.proofs.StampedPieces.{stamped_piece_read}
use Rattle.session_text.proofs.piece_line.read_stamped_piece.Goals as goal

pub returns-clause-read : goal.returns-clause-read
returns-clause-read c =
    stamped_piece_read c.args.line.now c.in_ok-first.first.now c.in_ok-first.behind.now c.in_ok-second.second.now
    c.in_ok-second.spoken.now c.in_ok-behind_name.field-0.now c.in_ok-digits.digits.now c.in_ok-digits.word.now
    _ c.in_ok-moment.moment c.in_ok-author.author c.in_ok-number.number (omega arith) c.in_ok-first.ensures.cut
    c.in_ok-second.ensures.cut c.in_ok-behind_name.ensures c.in_ok-digits.ensures.cut (sym c.in_ok-moment.ensures)
    (sym c.in_ok-author.ensures) (sym c.in_ok-number.ensures) c.in_ok-length.ensures.read
