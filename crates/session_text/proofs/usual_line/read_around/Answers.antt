use Rattle.std.proofs.Common.{◌≡◌, ◌==◌, ◌∷◌, Some, sym, subst, rules}
use Rattle.std.specs.Prelude.{ℤ, codes}
use Rattle.std.specs.List.{slice_split}
use Rattle.std.proofs.lemmas.Int.{to_z-of_z}
use mir.Syntax.{w32}
use mir.Val.{to_z, of_z}
use Rattle.relay_model.specs.declared.act.Act.TheVariants as acts
use Rattle.session_text.specs.declared.line.Form.TheVariants.{Acts}
use Rattle.session_text.specs.declared.line.Line.TheVariants as lines
use Rattle.session_text.specs.Reading.{line_of_words}
use Rattle.session_text.proofs.UsualLines.{around_read}
use Rattle.session_text.proofs.usual_line.read_around.Goals as goal

pub returns-in-Ok : goal.returns-in-Ok
returns-in-Ok c =
    let cursor = to_z-of_z w32 c.in_ok-cursor.cursor (search rules) in
    let anchor = to_z-of_z w32 c.in_ok-anchor.anchor (search rules) in
    let Is : ℤ → ℤ → Type 0 = λ x y. line_of_words Acts
    (codes "surround" ∷ slice_split (λ b. b == 32) c.args.rest.now) ≡
    Some (lines.Act (acts.Surround c.in_ok-field.field c.in-Ok.text x y)) in
    let read = around_read c.args.rest.now c.in_ok-digits.behind.now c.in_ok-word.offsets.now c.in_ok-digits.digits.now
    c.in_ok-word.word.now c.in_ok-first.first.now c.in_ok-first.second.now c.in_ok-field.field c.in-Ok.text
    c.in_ok-cursor.cursor c.in_ok-anchor.anchor c.in_ok-digits.ensures.cut c.in_ok-word.ensures.cut
    c.in_ok-first.ensures.cut (sym c.in_ok-field.ensures) c.in-Ok.ensures (sym c.in_ok-cursor.ensures)
    (sym c.in_ok-anchor.ensures) in
    subst (λ x. Is x (to_z w32 (of_z w32 c.in_ok-anchor.anchor))) (sym cursor)
    (subst (λ y. Is c.in_ok-cursor.cursor y) (sym anchor) read)
