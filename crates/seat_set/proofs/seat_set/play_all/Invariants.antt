use Rattle.std.proofs.Common.{◌≡◌, ◌++◌, ◌+◌, ◌-◌, take, drop, length, string_bytes}
use Rattle.session_text.specs.declared.seat_line.SeatLine.TheVariants.{All}
use Rattle.lines_transcript.specs.Printed.{IsFront}
use Rattle.seat_set.specs.Seats.{seats_after, seats_said}
use Rattle.seat_set.specs.Begun.{AreBegun}
use Rattle.seat_set.proofs.seat_set.play_all.Given as goal

abbrev pub invariant-loop-place : goal.invariant-loop-place
invariant-loop-place l = record {
  seats : take l.place l.seats ++ seats_after (All l.line) (l.place + 1) (drop l.place l.seats)
      ≡ seats_after (All l.line) 1 l.fn.seats;
  text : string_bytes l.text ++ seats_said (All l.line) (l.place + 1) (drop l.place l.seats)
      ≡ string_bytes l.fn.text ++ seats_said (All l.line) 1 l.fn.seats;
  begun : AreBegun (All l.line) l.fn.seats l.seats;
  to_come : drop l.place l.seats ≡ drop l.place l.fn.seats;
  grown : IsFront (string_bytes l.fn.text) (string_bytes l.text);
}

abbrev pub decreases-loop-place : goal.decreases-loop-place
decreases-loop-place l = length l.seats - l.place
