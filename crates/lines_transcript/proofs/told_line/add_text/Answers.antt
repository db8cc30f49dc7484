use Rattle.std.proofs.Common.{◌≡◌, ◌∷◌, ◌++◌, ◌∙◌, ap, map}
use Rattle.std.specs.Fmt.{signed_decimal}
use Rattle.std.specs.String.{string_bytes}
use Rattle.std.proofs.lemmas.Result.{on_ok_weaker}
use Rattle.session_text.specs.Words.{hex_word}
use Rattle.lines_transcript.specs.Told.{spaced}
use Rattle.lines_transcript.proofs.PrintedLines.{spaced_first}
use Rattle.lines_transcript.proofs.told_line.add_text.Goals as goal

pub returns : goal.returns
returns c =
    let words = hex_word c.args.text.now ∷ map signed_decimal c.args.numbers.now in
    let word : c.as_str.result.now ≡ hex_word c.args.text.now =
    c.as_str.ensures.value ∙ c.in_ok-word.ensures.value ∙ ap hex_word c.as_bytes.ensures.value in
    record {
      added = on_ok_weaker c.add_signed.result
          (λ (added : string_bytes c.add_signed.new.line
          ≡ string_bytes c.add_word.new.line ++ spaced (c.as_str.result.now ∷ map signed_decimal c.args.numbers.now)).
          spaced_first c.args.name.now words (string_bytes c.args.line.now) _ _ c.in_ok-add_word.ensures.added
          (rw word at added))
          c.add_signed.ensures.added;
      clean = c.add_signed.ensures.clean;
    }
