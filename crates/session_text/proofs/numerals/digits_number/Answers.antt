use Rattle.std.proofs.Common.{◌+◌, ◌*◌, ◌∙◌, ap, slice_index_or, arith}
use Rattle.std.specs.Int.{IsInRange}
use Rattle.session_text.proofs.DecimalDigits.{digits_more, digit_among, tenfold_fits, value_more, value_small}
use Rattle.session_text.proofs.numerals.digits_number.Goals as goal

pub returns-then-not-is_ascii_digit-clause-other :
    goal.returns-then-not-is_ascii_digit-clause-other
returns-then-not-is_ascii_digit-clause-other c =
    λ all. let range : IsInRange 48 57 (slice_index_or c.args.digits.now c.loop-digit.digit-index 0) =
    digit_among _ _ all c.loop-digit-test.true in
    let out = c.if-not-is_ascii_digit.ensures.cases in grind (arith, out, range)

pub loop-digit-preserved : goal.loop-digit-preserved
loop-digit-preserved c =
    let i = c.loop-digit.digit-index in
    let digits = c.args.digits.now in
    let range : IsInRange 48 57 (slice_index_or digits i 0) = c.if-not-is_ascii_digit.ensures.cases in
    record {
      all = digits_more digits i c.loop-digit-test.true c.loop-digit.invariant.all
          (c.if-not-is_ascii_digit.ensures.bound);
      value = ap (λ d. 10 * c.loop-digit.number + d) c.from.ensures
          ∙ value_more digits i c.loop-digit.number c.loop-digit-test.true range c.loop-digit.invariant.value;
      small = value_small c.loop-digit.number c.from.result i c.loop-digit.invariant.small
          (omega (arith, c.from.ensures, range.0, range.1));
    }

pub overflow_mul-number : goal.overflow_mul-number
overflow_mul-number c =
    let fits = tenfold_fits c.loop-digit.number c.loop-digit.digit-index
    (omega (arith, c.loop-digit-test.true, c.requires.few)) c.loop-digit.invariant.small in
    omega (arith, fits)

pub overflow_add-number : goal.overflow_add-number
overflow_add-number c =
    let fits = tenfold_fits c.loop-digit.number c.loop-digit.digit-index
    (omega (arith, c.loop-digit-test.true, c.requires.few)) c.loop-digit.invariant.small in
    let range : IsInRange 48 57 (slice_index_or c.args.digits.now c.loop-digit.digit-index 0) =
    c.if-not-is_ascii_digit.ensures.cases in
    omega (arith, fits, c.from.ensures, range.0, range.1)
