use Rattle.std.proofs.Common.{◌≡◌, [], ◌∷◌, ◌++◌, ◌∙◌, ap}
use Rattle.std.specs.Prelude.{codes}
use Rattle.std.specs.Fmt.{decimal}
use Rattle.std.specs.String.{string_bytes}
use Rattle.std.proofs.lemmas.Result.{on_ok_weaker}
use Rattle.relay_model.specs.Faults.{code_of, text_of}
use Rattle.session_text.specs.Words.{hex_word}
use Rattle.lines_transcript.specs.Told.{spaced}
use Rattle.lines_transcript.proofs.FaultTexts.{fault_word, fault_clean}
use Rattle.lines_transcript.proofs.PrintedLines.{spaced_last}
use Rattle.hex.specs.Hex.{encode_lower}
use Rattle.lines_transcript.proofs.told_line.add_error.Goals as goal

pub add_word-requires-clause-word_clean : goal.add_word-requires-clause-word_clean
add_word-requires-clause-word_clean c =
    let word : c.as_str.result.now ≡ encode_lower (text_of c.args.fault) =
    c.as_str.ensures.value ∙ c.in_ok-text.ensures ∙ ap encode_lower (c.as_bytes.ensures.value ∙ c.text.ensures.text) in
    rw word (fault_clean c.args.fault)

pub returns : goal.returns
returns c =
    let line = string_bytes c.args.line.now in
    let word : c.as_str.result.now ≡ hex_word (text_of c.args.fault) =
    c.as_str.ensures.value ∙ c.in_ok-text.ensures ∙ ap encode_lower (c.as_bytes.ensures.value ∙ c.text.ensures.text)
    ∙ fault_word c.args.fault in
    let first : string_bytes c.add_numbers.new.line ≡ line ++
    spaced (codes "error" ∷ decimal c.args.object ∷ decimal (code_of c.args.fault) ∷ []) =
    rw c.code.ensures.code at c.in_ok-add_numbers.ensures.added in
    record {
      added = on_ok_weaker c.add_word.result
          (λ (added : string_bytes c.add_word.new.line
          ≡ string_bytes c.add_numbers.new.line ++ 32 ∷ c.as_str.result.now).
          spaced_last (codes "error" ∷ decimal c.args.object ∷ decimal (code_of c.args.fault) ∷ [])
          (hex_word (text_of c.args.fault)) line _ _ first (rw word at added))
          c.add_word.ensures.added;
      clean = c.add_word.ensures.clean;
    }
