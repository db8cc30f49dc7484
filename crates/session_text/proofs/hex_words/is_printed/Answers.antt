use Rattle.std.proofs.Common.{◌∙◌, sym, ap}
use Rattle.std.specs.Prelude.{not}
use Rattle.session_text.proofs.LowerHex.{printed_again}
use Rattle.session_text.proofs.hex_words.is_printed.Goals as goal

pub returns-then-is_within : goal.returns-then-is_within
returns-then-is_within c =
    let again = printed_again c.args.word.now c.args.bytes.now c.requires in
    rw (sym c.is_within.ensures ∙ c.if-is_within.true) (ap not c.has_upper.ensures ∙ sym again)
