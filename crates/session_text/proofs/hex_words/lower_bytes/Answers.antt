use Rattle.std.proofs.Common.{◌≡◌, ◌++◌, length, take, drop, Some, ap, sym, ◌∙◌, refl, arith}
use Rattle.std.proofs.lemmas.List.{take_at}
use Rattle.session_text.proofs.LowerRead.{lower_read}
use Rattle.session_text.proofs.hex_words.lower_bytes.Goals as goal

pub returns-then-decode_lower-clause-read : goal.returns-then-decode_lower-clause-read
returns-then-decode_lower-clause-read c =
    let bytes = c.decode_lower.new.bytes in
    let made = c.in_ok-bytes.ensures in
    let long : length bytes ≡ c.in_ok-bytes.bytes.len = c.decode_lower.auto.bytes ∙ c.deref_mut.ensures.len in
    let rest = drop (length bytes) c.in_ok-bytes.bytes.items in
    let front : take c.in_ok-bytes.bytes.len (bytes ++ rest) ≡ bytes =
    take_at bytes rest c.in_ok-bytes.bytes.len long in
    lower_read c.args.limit c.args.word.now bytes c.if-decode_lower.ensures.bytes (omega (arith, made.len))
    (omega (arith, made.len))
    (c.if-decode_lower.ensures.read refl) ∙ ap Some (sym front)
