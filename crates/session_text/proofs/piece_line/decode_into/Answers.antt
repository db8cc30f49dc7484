use Rattle.std.proofs.Common.{◌≡◌, ◌/◌, ◌++◌, length, take, drop, Some, ap, sym, ◌∙◌, refl, arith}
use Rattle.std.proofs.lemmas.List.{take_at, length-take-le}
use Rattle.broker_steps.specs.Ranges.{piece_limit}
use Rattle.session_text.proofs.LowerRead.{lower_read}
use Rattle.session_text.proofs.piece_line.decode_into.Goals as goal

pub returns-then-decode_lower-clause-read : goal.returns-then-decode_lower-clause-read
returns-then-decode_lower-clause-read c =
    let n = length c.args.word.now / 2 in
    let bytes = c.decode_lower.new.bytes in
    let long : length bytes ≡ n =
    c.decode_lower.auto.bytes ∙ length-take-le n c.args.piece.now c.if-length-piece.false in
    let front : take n (bytes ++ drop n c.args.piece.now) ≡ bytes = take_at bytes (drop n c.args.piece.now) n long in
    lower_read piece_limit c.args.word.now bytes c.if-decode_lower.ensures.bytes (omega arith)
    (omega (arith, c.requires.few)) (c.if-decode_lower.ensures.read refl)
    ∙ ap Some (sym front)
