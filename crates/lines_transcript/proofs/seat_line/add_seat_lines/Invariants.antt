use Rattle.std.proofs.Common.{◌≡◌, ◌++◌, List, ℕ, string_bytes, length}
use denote.Text.{Utf8}
use denote.Shadow.{shadow}
use Rattle.lines_transcript.specs.Seats.{seat_lines}
use Rattle.lines_transcript.proofs.seat_line.add_seat_lines.Given as goal

abbrev pub invariant-loop-digits : goal.invariant-loop-digits
invariant-loop-digits l = record {
  utf8 : shadow (Utf8 l.rest);
  so_far : string_bytes l.text ++ seat_lines l.seat l.rest ≡ string_bytes l.fn.text ++ seat_lines l.seat l.fn.lines;
  grown : (more : List ℕ) × (string_bytes l.text ≡ string_bytes l.fn.text ++ more);
}

abbrev pub decreases-loop-digits : goal.decreases-loop-digits
decreases-loop-digits l = length l.rest
