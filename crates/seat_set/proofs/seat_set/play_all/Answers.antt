use Rattle.std.proofs.Common.{◌+◌, List, ℕ, get_or, refl, string_bytes}
use Rattle.session_text.specs.declared.seat_line.SeatLine.TheVariants.{All}
use Rattle.lines_transcript.specs.Seats.{seat_lines}
use Rattle.seat_set.specs.Seats.{Seat, seat_said}
use Rattle.seat_set.proofs.SeatsInTurn.{all_next, all_said_next, all_done, all_said}
use Rattle.seat_set.proofs.SeatsBegun.{none_begun, one_begun, played_begun, still_there, later_there, same_text, text_by, text_on, err_any}
use Rattle.seat_set.proofs.seat_set.play_all.Goals as goal

pub loop-place-init : goal.loop-place-init
loop-place-init c = record {
  seats = refl;
  text = refl;
  begun = none_begun (All c.args.line.now) c.args.seats.now;
  to_come = refl;
  grown = same_text (string_bytes c.args.text.now);
}

pub loop-place-preserved : goal.loop-place-preserved
loop-place-preserved c =
    let d : Seat = c.index-seats-place.result in
    let i : ℕ = c.loop-place.place in
    let seats : List Seat = c.loop-place.seats in
    let x : Seat = get_or seats i d in
    let y : Seat = c.play_seat.new.seat in
    let line = c.args.line.now in
    let was : List ℕ = string_bytes c.loop-place.text in
    let now : List ℕ = string_bytes c.play_seat.new.text in
    let h = c.loop-place.invariant in record {
      seats = all_next line i seats x y d _ c.loop-place-test.true refl c.in_ok-play_seat.ensures.seat h.seats;
      text = all_said_next line i seats x y d was now _ c.loop-place-test.true refl c.in_ok-play_seat.ensures.text
          h.text;
      begun = one_begun (All line) c.args.seats.now seats i x y h.begun refl
          (still_there i c.args.seats.now seats d h.to_come c.loop-place-test.true)
          (played_begun line x y c.in_ok-play_seat.ensures.seat);
      to_come = later_there i c.args.seats.now seats y h.to_come;
      grown = text_on (string_bytes c.args.text.now) was now h.grown
          (text_by was (seat_lines (i + 1) (seat_said line x)) now c.in_ok-play_seat.ensures.text);
    }

pub returns-clause-seats : goal.returns-clause-seats
returns-clause-seats c =
    all_done c.args.line.now c.loop-place.place c.loop-place.seats _ c.loop-place-test.false
    c.loop-place.invariant.seats

pub returns-clause-text : goal.returns-clause-text
returns-clause-text c =
    all_said c.args.line.now c.loop-place.place c.loop-place.seats _ _ c.loop-place-test.false
    c.loop-place.invariant.text

pub returns-in_err-play_seat-clause-part : goal.returns-in_err-play_seat-clause-part
returns-in_err-play_seat-clause-part c =
    let d : Seat = c.index-seats-place.result in
    let i : ℕ = c.loop-place.place in
    let seats : List Seat = c.loop-place.seats in
    let h = c.loop-place.invariant in
    err_any c.from_residual.result _
    (one_begun (All c.args.line.now) c.args.seats.now seats i (get_or seats i d) c.play_seat.new.seat h.begun refl
    (still_there i c.args.seats.now seats d h.to_come c.loop-place-test.true) c.in_err-play_seat.ensures.part)

pub returns-in_err-play_seat-clause-part_text : goal.returns-in_err-play_seat-clause-part_text
returns-in_err-play_seat-clause-part_text c =
    err_any c.from_residual.result _
    (text_on (string_bytes c.args.text.now) (string_bytes c.loop-place.text) (string_bytes c.play_seat.new.text)
    c.loop-place.invariant.grown c.in_err-play_seat.ensures.part_text)
