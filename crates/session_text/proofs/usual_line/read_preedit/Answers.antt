use Rattle.std.proofs.Common.{◌≡◌, ◌==◌, ◌∷◌, Some, sym, subst, rules}
use Rattle.std.specs.Prelude.{ℤ, codes}
use Rattle.std.specs.List.{slice_split}
use Rattle.std.proofs.lemmas.Int.{to_z-of_z}
use mir.Syntax.{w32}
use mir.Val.{to_z, of_z}
use Rattle.relay_model.specs.declared.act.Act.TheVariants as acts
use Rattle.session_text.specs.declared.line.Form.TheVariants.{Acts}
use Rattle.session_text.specs.declared.line.Line.TheVariants as lines
use Rattle.session_text.specs.Reading.{line_of_words}
use Rattle.session_text.proofs.UsualLines.{preedit_read}
use Rattle.session_text.proofs.usual_line.read_preedit.Goals as goal

pub returns-in-Ok : goal.returns-in-Ok
returns-in-Ok c =
    let begin = to_z-of_z w32 c.in_ok-begin.begin (search rules) in
    let end = to_z-of_z w32 c.in_ok-end.end (search rules) in
    let Is : ℤ → ℤ → Type 0 = λ x y. line_of_words Acts
    (codes "mpreedit" ∷ slice_split (λ b. b == 32) c.args.rest.now) ≡
    Some (lines.Act (acts.MPreedit c.in_ok-method.method c.in-Ok.text x y)) in
    let read = preedit_read c.args.rest.now c.in_ok-digits.behind.now c.in_ok-word.offsets.now c.in_ok-digits.digits.now
    c.in_ok-word.word.now c.in_ok-first.first.now c.in_ok-first.second.now c.in_ok-method.method c.in-Ok.text
    c.in_ok-begin.begin c.in_ok-end.end c.in_ok-digits.ensures.cut c.in_ok-word.ensures.cut
    c.in_ok-first.ensures.cut (sym c.in_ok-method.ensures) c.in-Ok.ensures (sym c.in_ok-begin.ensures)
    (sym c.in_ok-end.ensures) in
    subst (λ x. Is x (to_z w32 (of_z w32 c.in_ok-end.end))) (sym begin)
    (subst (λ y. Is c.in_ok-begin.begin y) (sym end) read)
