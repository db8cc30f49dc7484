use Rattle.std.proofs.Common.{◌≡◌, ◌++◌, ◌-◌, List, ℕ, Ok, Err, get_or, refl, sym, ap, ◌∙◌, arith}
use Rattle.std.specs.Prelude.{OnOk, slice_set, string_bytes}
use Rattle.session_text.specs.declared.line.SessionLine.{SessionLine}
use Rattle.session_text.specs.declared.line.SessionLine.TheVariants as lines
use Rattle.session_text.specs.declared.seat_line.SeatLine.TheVariants.{One}
use Rattle.lines_transcript.specs.Seats.{seat_lines}
use Rattle.seat_set.specs.Seats.{Seat, seat_after, seat_said, seats_after, seats_said}
use Rattle.seat_set.proofs.SeatsInTurn.{one_after, one_said}
use Rattle.seat_set.proofs.SeatsBegun.{lone_begun, on_err}
use Rattle.seat_set.proofs.seat_set.play_one_bytes.Goals as goal

pub returns-clause-seats : goal.returns-clause-seats
returns-clause-seats c =
    let n : ℕ = c.args.seat - 1 in
    let line : SessionLine = lines.Bytes c.args.peer c.args.piece.now in
    elim c.play_seat_bytes.result as
    (λ r. OnOk r
    (c.play_seat_bytes.new.seat ≡ seat_after line (get_or c.args.seats.now n c.index-seats-seat.result))
    → OnOk r (slice_set c.args.seats.now n c.play_seat_bytes.new.seat
    ≡ seats_after (One c.args.seat line) 1 c.args.seats.now)) [
      | Ok x ↦ λ is.
          ap (λ (y : Seat). slice_set c.args.seats.now n y) is
          ∙ sym (one_after c.args.seat 1 n line c.args.seats.now _ c.index-seats-seat.result
          (omega arith) (omega arith) refl)
      | Err e ↦ λ _. tt
    ] c.play_seat_bytes.ensures.seat

pub returns-clause-text : goal.returns-clause-text
returns-clause-text c =
    let n : ℕ = c.args.seat - 1 in
    let line : SessionLine = lines.Bytes c.args.peer c.args.piece.now in
    elim c.play_seat_bytes.result as (λ r. OnOk r (string_bytes c.play_seat_bytes.new.text
    ≡ string_bytes c.args.text.now
    ++ seat_lines c.args.seat (seat_said line (get_or c.args.seats.now n c.index-seats-seat.result)))
    → OnOk r (string_bytes c.play_seat_bytes.new.text
    ≡ string_bytes c.args.text.now ++ seats_said (One c.args.seat line) 1 c.args.seats.now)) [
      | Ok x ↦ λ is.
          is ∙ ap (λ (t : List ℕ). string_bytes c.args.text.now ++ t)
          (sym (one_said c.args.seat 1 n line c.args.seats.now _ c.index-seats-seat.result (omega arith)
          (omega arith) refl))
      | Err e ↦ λ _. tt
    ] c.play_seat_bytes.ensures.text

pub returns-clause-part : goal.returns-clause-part
returns-clause-part c =
    on_err c.play_seat_bytes.result _ _ c.play_seat_bytes.ensures.part (λ begun.
    lone_begun c.args.seat (c.args.seat - 1) (lines.Bytes c.args.peer c.args.piece.now) c.args.seats.now
    c.play_seat_bytes.new.seat c.index-seats-seat.result (omega arith) (omega arith) begun)
