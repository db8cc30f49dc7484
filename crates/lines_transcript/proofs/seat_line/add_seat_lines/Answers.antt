use Rattle.std.proofs.Common.{◌≡◌, ◌++◌, ◌∷◌, [], List, ℕ, string_bytes, refl, ap, ◌∙◌, rules}
use Rattle.std.specs.Prelude.{Result, Ok, Err, OnErr}
use Rattle.lines_transcript.specs.Seats.{seat_mark}
use Rattle.lines_transcript.proofs.SeatTexts.{next_line, same_front, grown_on}
use Rattle.lines_transcript.proofs.seat_line.add_seat_lines.Goals as goal

err_any : {T E : Type 0} (r : Result T E) (A : Type 0) → A → OnErr r A
err_any (Ok x) A a = tt
err_any (Err e) A a = a

pub loop-digits-init : goal.loop-digits-init
loop-digits-init c = record { utf8 = search rules; so_far = refl; grown = same_front (string_bytes c.args.text.now) }

pub loop-digits-preserved : goal.loop-digits-preserved
loop-digits-preserved c =
    let text : List ℕ = string_bytes c.loop-digits.text in
    let line : List ℕ = c.first_line.result.0.now in
    let grew : string_bytes c.add_line.new.text ≡ text ++ (seat_mark c.args.seat ++ line) =
    c.in_ok-add_line.ensures.whole
    ∙ ap (λ (d : List ℕ). text ++ ((d ++ 32 ∷ []) ++ line)) c.format-digits.ensures.text in record {
      utf8 = search rules;
      so_far = next_line c.args.seat text (string_bytes c.add_line.new.text) c.loop-digits.rest.now line
          c.first_line.result.1.now _ (c.first_line.ensures.marked c.args.seat) grew c.loop-digits.invariant.so_far;
      grown = grown_on text (string_bytes c.add_line.new.text) (string_bytes c.args.text.now)
          c.loop-digits.invariant.grown (seat_mark c.args.seat ++ line, grew);
    }

pub returns-in_err-add_line-clause-part : goal.returns-in_err-add_line-clause-part
returns-in_err-add_line-clause-part c =
    err_any c.from_residual.result _
    (grown_on (string_bytes c.loop-digits.text) (string_bytes c.add_line.new.text) (string_bytes c.args.text.now)
    c.loop-digits.invariant.grown c.in_err-add_line.ensures.part)
