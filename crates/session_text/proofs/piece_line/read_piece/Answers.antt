use Rattle.std.proofs.Common.{sym, arith}
use Rattle.session_text.proofs.PieceLines.{piece_read}
use Rattle.session_text.proofs.piece_line.read_piece.Goals as goal

pub returns-clause-read : goal.returns-clause-read
returns-clause-read c =
    piece_read c.args.line.now c.in_ok-behind_name.field-0.now c.in_ok-digits.digits.now c.in_ok-digits.word.now
    _ c.in_ok-number.number (omega arith) c.in_ok-behind_name.ensures c.in_ok-digits.ensures.cut
    (sym c.in_ok-number.ensures)
    c.in_ok-length.ensures.read
