use Rattle.std.proofs.Common.{◌≡◌, sym, ◌∙◌, get_or, arith}
use Rattle.std.proofs.lemmas.List.{take_rest}
use Rattle.session_text.proofs.WrittenNumbers.{negative_none, negative_is, signed_none, signed_is}
use Rattle.session_text.proofs.numerals.parsed_signed.Goals as goal

pub returns-in_err-units : goal.returns-in_err-units
returns-in_err-units c =
    let minus : get_or c.args.word.now 0 0 ≡ 45 = c.begins_with_minus.ensures.0 c.if-begins_with_minus.true in
    c.from_residual.ensures ∙ sym (negative_none c.args.word.now minus (rw take_rest at c.in_err-units.ensures.other))

pub returns-in_err-number : goal.returns-in_err-number
returns-in_err-number c =
    c.from_residual-in_err-number.ensures
    ∙ sym (signed_none c.args.word.now
    (λ e. let is = c.begins_with_minus.ensures.1 e in let other = c.if-begins_with_minus.false in cc)
    (λ n small. c.in_err-number.ensures.other n (omega (arith, small))))

pub returns-in_ok-units : goal.returns-in_ok-units
returns-in_ok-units c =
    let minus : get_or c.args.word.now 0 0 ≡ 45 = c.begins_with_minus.ensures.0 c.if-begins_with_minus.true in
    c.negative.ensures
    ∙ sym (negative_is c.args.word.now c.in_ok-units.units c.in_ok-units.ensures.small minus
    (rw take_rest at c.in_ok-units.ensures.value))

pub returns-in_ok-number : goal.returns-in_ok-number
returns-in_ok-number c =
    c.positive.ensures
    ∙ sym (signed_is c.args.word.now c.in_ok-number.number c.in_ok-number.ensures.small c.in_ok-number.ensures.value)
