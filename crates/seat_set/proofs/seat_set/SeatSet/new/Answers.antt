use Rattle.std.proofs.Common.{◌≡◌, List, length, ap, ◌∙◌, arith}
use Rattle.std.proofs.lemmas.List.{length-replicate}
use Rattle.seat_set.specs.Seats.{Seat, fresh}
use Rattle.seat_set.proofs.seat_set.SeatSet.new.Goals as goal

pub invariant_of-result : goal.invariant_of-result
invariant_of-result c =
    let e : length c.loop-seat.seats.items ≡ c.loop-seat._seat =
    ap (λ (l : List Seat). length l) c.loop-seat.invariant ∙ length-replicate c.loop-seat._seat (fresh c.args.limits) in
    omega (arith, e, c.requires.few)
