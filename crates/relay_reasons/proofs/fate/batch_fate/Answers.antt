use Rattle.std.proofs.Common.{◌<◌, ◌^◌, length, ap, ◌∙◌, arith}
use Rattle.relay_model.specs.Idle.{history}
use Rattle.relay_model.proofs.ActsOrIdle.{history_is, length_history}
use Rattle.relay_reasons.specs.declared.seat.Seat.{Seat}
use Rattle.relay_reasons.specs.Counted.{fate_on}
use Rattle.relay_reasons.proofs.FateByCounts.{fate_is}
use Rattle.relay_reasons.proofs.fate.batch_fate.Goals as goal

pub returns : goal.returns
returns c = λ log h.
    let few : length (history log) < 2 ^ 32 =
    omega (arith, length_history log, c.acts-acts.ensures.length log h, c.acts-acts.type_inv) in
    let small : c.args.serial < 2 ^ 32 = omega (arith, c.ranges.serial.fits) in
    c.fate_on.ensures ∙ ap (λ (s : Seat). fate_on s c.args.method c.args.serial) (c.seat_now.ensures log h) ∙
    fate_is (history log) c.args.method c.args.serial (history_is log) few small
