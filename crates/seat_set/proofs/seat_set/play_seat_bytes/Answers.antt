use Rattle.std.proofs.Common.{◌≡◌, ◌++◌, List, ℕ, true, sym, ap, ◌∙◌, append-nil, arith}
use Rattle.std.specs.Prelude.{is_some, string_bytes}
use Rattle.std.proofs.lemmas.Grind.{common_steps}
use Rattle.session_text.specs.declared.line.SessionLine.{SessionLine}
use Rattle.session_text.specs.declared.line.SessionLine.TheVariants as lines
use Rattle.seat_set.proofs.SeatPlayed.{says_nothing}
use Rattle.seat_set.proofs.seat_set.play_seat_bytes.Goals as goal

pub returns-then-is_some-clause-text : goal.returns-then-is_some-clause-text
returns-then-is_some-clause-text c =
    let full : is_some c.args.seat.now.full ≡ true = grind (arith, common_steps) in
    let line : SessionLine = lines.Bytes c.args.peer c.args.piece.now in
    let text : List ℕ = string_bytes c.args.text.now in
    sym (ap (λ (t : List ℕ). text ++ t) (says_nothing c.args.number line c.args.seat.now full)
    ∙ append-nil text)
