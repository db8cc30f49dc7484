use Rattle.std.proofs.Common.{◌≡◌, ◌++◌, ◌-◌, List, ℕ, Ok, Err, get_or, refl, sym, ap, ◌∙◌, arith}
use Rattle.std.specs.Prelude.{OnOk, slice_set, string_bytes}
use Rattle.session_text.specs.declared.seat_line.SeatLine.TheVariants.{One}
use Rattle.lines_transcript.specs.Seats.{seat_lines}
use Rattle.seat_set.specs.Seats.{Seat, seat_after, seat_said, seats_after, seats_said}
use Rattle.seat_set.proofs.SeatsInTurn.{one_after, one_said}
use Rattle.seat_set.proofs.SeatsBegun.{lone_begun, on_err}
use Rattle.seat_set.proofs.seat_set.play_one.Goals as goal

pub returns-clause-seats : goal.returns-clause-seats
returns-clause-seats c =
    let n : ℕ = c.args.number - 1 in
    elim c.play_seat.result as
    (λ r. OnOk r
    (c.play_seat.new.seat ≡ seat_after c.args.line.now (get_or c.args.seats.now n c.index-seats-number.result))
    → OnOk r (slice_set c.args.seats.now n c.play_seat.new.seat
    ≡ seats_after (One c.args.number c.args.line.now) 1 c.args.seats.now)) [
      | Ok x ↦ λ is.
          ap (λ (y : Seat). slice_set c.args.seats.now n y) is
          ∙ sym (one_after c.args.number 1 n c.args.line.now c.args.seats.now _ c.index-seats-number.result
          (omega arith) (omega arith) refl)
      | Err e ↦ λ _. tt
    ] c.play_seat.ensures.seat

pub returns-clause-text : goal.returns-clause-text
returns-clause-text c =
    let n : ℕ = c.args.number - 1 in
    elim c.play_seat.result as (λ r. OnOk r (string_bytes c.play_seat.new.text
    ≡ string_bytes c.args.text.now
    ++ seat_lines c.args.number (seat_said c.args.line.now (get_or c.args.seats.now n c.index-seats-number.result)))
    → OnOk r (string_bytes c.play_seat.new.text
    ≡ string_bytes c.args.text.now ++ seats_said (One c.args.number c.args.line.now) 1 c.args.seats.now)) [
      | Ok x ↦ λ is.
          is ∙ ap (λ (t : List ℕ). string_bytes c.args.text.now ++ t)
          (sym (one_said c.args.number 1 n c.args.line.now c.args.seats.now _ c.index-seats-number.result (omega arith)
          (omega arith) refl))
      | Err e ↦ λ _. tt
    ] c.play_seat.ensures.text

pub returns-clause-part : goal.returns-clause-part
returns-clause-part c =
    on_err c.play_seat.result _ _ c.play_seat.ensures.part (λ begun.
    lone_begun c.args.number (c.args.number - 1) c.args.line.now c.args.seats.now c.play_seat.new.seat
    c.index-seats-number.result (omega arith) (omega arith) begun)
