use Rattle.std.proofs.Common.{sym, ◌∙◌}
use Rattle.session_text.proofs.WrittenNumbers.{number_none, number_is}
use Rattle.session_text.proofs.numerals.parsed_number.Goals as goal

pub returns-in_err-number : goal.returns-in_err-number
returns-in_err-number c = c.from_residual.ensures ∙ sym (number_none c.args.word.now c.in_err-number.ensures.other)

pub returns : goal.returns
returns c = c.without_sign.ensures
    ∙ sym (number_is c.args.word.now c.in_ok-number.number c.in_ok-number.ensures.small c.in_ok-number.ensures.value)
