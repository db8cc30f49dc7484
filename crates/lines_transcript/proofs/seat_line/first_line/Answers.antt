use Rattle.std.proofs.Common.{◌++◌, List, ℕ, ap₂, sym, ◌∙◌, arith}
use Rattle.std.proofs.lemmas.Str.{IsCharBoundary-after_ascii}
use Rattle.lines_transcript.specs.Seats.{seat_lines, seat_mark}
use Rattle.lines_transcript.proofs.SeatTexts.{found_marked, lone_marked, feed_at}
use Rattle.lines_transcript.proofs.seat_line.first_line.Goals as goal

pub split_at-requires : goal.split_at-requires
split_at-requires c =
    let at = feed_at c.args.lines.now c.as_bytes.result.now c.in-Some.feed c.as_bytes.ensures.value c.in-Some.ensures.0
    c.in-Some.ensures.1 in
    IsCharBoundary-after_ascii c.args.lines.now c.in-Some.feed c.utf8.lines at.0 (omega (arith, at.1))

pub returns-in-Some-clause-marked : goal.returns-in-Some-clause-marked
returns-in-Some-clause-marked c = λ seat.
    found_marked seat c.in-Some.feed c.args.lines.now c.as_bytes.result.now c.as_bytes.ensures.value c.in-Some.ensures.0
    c.in-Some.ensures.1
    ∙ ap₂ (λ (line more : List ℕ). seat_mark seat ++ (line ++ seat_lines seat more)) (sym c.split_at.ensures.front)
    (sym c.split_at.ensures.back)

pub returns-in-None-clause-marked : goal.returns-in-None-clause-marked
returns-in-None-clause-marked c = λ seat.
    lone_marked seat c.args.lines.now c.as_bytes.result.now c.as_bytes.ensures.value c.requires.some c.in-None.ensures
