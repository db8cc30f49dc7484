use Rattle.std.proofs.Common.{◌≡◌, [], ◌∷◌, ◌++◌, ◌∙◌, ap, rules}
use Rattle.std.specs.Prelude.{codes}
use Rattle.std.specs.Fmt.{decimal, signed_decimal}
use Rattle.std.specs.String.{string_bytes}
use Rattle.std.proofs.lemmas.Int.{to_z-of_z}
use Rattle.std.proofs.lemmas.Result.{on_ok_weaker}
use mir.Syntax.{w64}
use Rattle.lines_transcript.proofs.PrintedLines.{signed_clean, spaced_last}
use Rattle.lines_transcript.proofs.told_line.add_place.Goals as goal

pub add_word-requires-clause-word_clean : goal.add_word-requires-clause-word_clean
add_word-requires-clause-word_clean c =
    let x : c.format.result.now ≡ signed_decimal c.args.x =
    c.format.ensures.text ∙ ap signed_decimal (to_z-of_z w64 c.args.x (search rules)) in
    rw x (signed_clean c.args.x (search rules))

pub add_word-requires-2-clause-word_clean : goal.add_word-requires-2-clause-word_clean
add_word-requires-2-clause-word_clean c =
    let y : c.format-2.result.now ≡ signed_decimal c.args.y =
    c.format-2.ensures.text ∙ ap signed_decimal (to_z-of_z w64 c.args.y (search rules)) in
    rw y (signed_clean c.args.y (search rules))

pub returns : goal.returns
returns c =
    let front = codes "placed" ∷ decimal c.args.popup ∷ [] in
    let line = string_bytes c.args.line.now in
    let x : c.format.result.now ≡ signed_decimal c.args.x =
    c.format.ensures.text ∙ ap signed_decimal (to_z-of_z w64 c.args.x (search rules)) in
    let y : c.format-2.result.now ≡ signed_decimal c.args.y =
    c.format-2.ensures.text ∙ ap signed_decimal (to_z-of_z w64 c.args.y (search rules)) in
    let first = spaced_last front (signed_decimal c.args.x) line _ _ c.in_ok-add_numbers.ensures.added
    (rw x at c.in_ok-add_word.ensures.added) in
    record {
      added = on_ok_weaker c.add_word-2.result
          (λ (added : string_bytes c.add_word-2.new.line
          ≡ string_bytes c.add_word.new.line ++ 32 ∷ c.format-2.result.now).
          spaced_last (codes "placed" ∷ decimal c.args.popup ∷ signed_decimal c.args.x ∷ [])
          (signed_decimal c.args.y) line _ _ first (rw y at added))
          c.add_word-2.ensures.added;
      clean = c.add_word-2.ensures.clean;
    }
