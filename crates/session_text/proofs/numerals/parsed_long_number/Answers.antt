use Rattle.std.proofs.Common.{◌∙◌, sym}
use Rattle.session_text.specs.Words.{IsPlain}
use Rattle.session_text.proofs.LongNumbers.{long_not_plain, long_not_front, long_not_last, long_is}
use Rattle.session_text.proofs.numerals.parsed_long_number.Goals as goal

pub returns-then-not-is_plain : goal.returns-then-not-is_plain
returns-then-not-is_plain c =
    sym (long_not_plain c.args.word.now
    (λ p. let is = c.is_plain.ensures.1 p in let other = c.if-not-is_plain.true in cc))

pub returns-in_err-tens : goal.returns-in_err-tens
returns-in_err-tens c =
    let plain : IsPlain 20 c.args.word.now = c.is_plain.ensures.0 c.if-not-is_plain.false in
    c.from_residual.ensures
    ∙ sym (long_not_front c.args.word.now c.split_at.result.0.now c.split_at.result.1.now plain.0
    c.split_at.ensures.front c.split_at.ensures.back c.in_err-tens.ensures.other)

pub returns-in_err-ones : goal.returns-in_err-ones
returns-in_err-ones c =
    let plain : IsPlain 20 c.args.word.now = c.is_plain.ensures.0 c.if-not-is_plain.false in
    c.from_residual-in_err-ones.ensures
    ∙ sym (long_not_last c.args.word.now c.split_at.result.0.now c.split_at.result.1.now plain.0
    c.split_at.ensures.front c.split_at.ensures.back c.in_err-ones.ensures.other)

pub returns : goal.returns
returns c =
    let plain : IsPlain 20 c.args.word.now = c.is_plain.ensures.0 c.if-not-is_plain.false in
    c.tens_and_ones.ensures
    ∙ sym (long_is c.args.word.now c.split_at.result.0.now c.split_at.result.1.now c.in_ok-tens.tens c.in_ok-ones.ones
    plain c.split_at.ensures.front c.split_at.ensures.back
    c.in_ok-tens.ensures.all c.in_ok-ones.ensures.all c.in_ok-tens.ensures.value c.in_ok-ones.ensures.value)
