use Rattle.std.proofs.Common.{◌≡◌, [], ◌∷◌, ◌++◌, ◌∙◌, map}
use Rattle.std.specs.Prelude.{codes}
use Rattle.std.specs.Fmt.{decimal}
use Rattle.std.specs.String.{string_bytes}
use Rattle.std.proofs.lemmas.List.{take_all}
use Rattle.session_text.specs.Words.{hex_word}
use Rattle.lines_transcript.specs.Told.{spaced}
use Rattle.lines_transcript.specs.Transcript.{token_word}
use Rattle.lines_transcript.proofs.PrintedLines.{spaced_more, spaced_last, line_joined}
use Rattle.lines_transcript.proofs.transcript_line.write_words.Goals as goal

pub loop-offset-preserved : goal.loop-offset-preserved
loop-offset-preserved c =
    record {
      added = spaced_more token_word c.args.tokens.now c.loop-offset.offset-index (0, 0)
          (string_bytes c.add_word.new.line) (string_bytes c.loop-offset.line)
          (string_bytes c.add_token.new.line) c.loop-offset-test.true c.loop-offset.invariant.added
          c.in_ok-add_token.ensures.added;
      clean = c.in_ok-add_token.ensures.clean;
    }

pub returns-clause-value : goal.returns-clause-value
returns-clause-value c =
    let words = codes "out" ∷ decimal c.args.peer ∷ hex_word c.args.group.now ∷ [] in
    let word : c.as_str.result.now ≡ hex_word c.args.group.now = c.as_str.ensures.value ∙ c.in_ok-hex.ensures.value in
    let front : string_bytes c.add_word.new.line ≡ string_bytes c.begin.new.line ++ spaced words =
    spaced_last (codes "out" ∷ decimal c.args.peer ∷ []) (hex_word c.args.group.now)
    (string_bytes c.begin.new.line) _ _ c.in_ok-add_numbers.ensures.added
    (rw word at c.in_ok-add_word.ensures.added) in
    let all = take_all c.loop-offset.offset-index c.args.tokens.now c.loop-offset-test.false in
    let rest : string_bytes c.loop-offset.line
    ≡ string_bytes c.add_word.new.line ++ spaced (map token_word c.args.tokens.now) =
    rw all at c.loop-offset.invariant.added in
    line_joined (decimal c.args.number) words (map token_word c.args.tokens.now) _ _
    (line_joined (decimal c.args.number) [] words _ _ c.in_ok-begin.ensures.value front) rest
