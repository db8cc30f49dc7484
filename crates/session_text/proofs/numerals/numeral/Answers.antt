use Rattle.session_text.proofs.WrittenNumbers.{not_plain, not_digits, plain_small, plain_value}
use Rattle.session_text.proofs.numerals.numeral.Goals as goal

pub returns-then-not-is_plain-clause-other : goal.returns-then-not-is_plain-clause-other
returns-then-not-is_plain-clause-other c =
    not_plain c.args.word.now (λ p. let is = c.is_plain.ensures.1 p in let other = c.if-not-is_plain.true in cc)

pub returns-in_err-number-clause-other : goal.returns-in_err-number-clause-other
returns-in_err-number-clause-other c =
    rw c.from_residual.ensures (not_digits c.args.word.now c.in_err-number.ensures.other)

pub returns-clause-small : goal.returns-clause-small
returns-clause-small c =
    plain_small c.args.word.now c.in_ok-number.number
    (c.is_plain.ensures.0 c.if-not-is_plain.false) c.in_ok-number.ensures.all c.in_ok-number.ensures.value

pub returns-clause-value : goal.returns-clause-value
returns-clause-value c =
    plain_value c.args.word.now c.in_ok-number.number
    (c.is_plain.ensures.0 c.if-not-is_plain.false) c.in_ok-number.ensures.all c.in_ok-number.ensures.value
