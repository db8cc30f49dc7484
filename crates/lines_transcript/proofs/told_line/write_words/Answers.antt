use Rattle.std.proofs.Common.{◌≡◌, [], ◌∷◌, ◌++◌, rules}
use Rattle.std.specs.Fmt.{decimal}
use Rattle.std.specs.String.{string_bytes}
use Rattle.std.proofs.lemmas.Result.{on_ok_weaker}
use Rattle.lines_transcript.specs.Told.{said_words, spaced}
use Rattle.lines_transcript.proofs.PrintedLines.{number_clean, spaced_first, line_joined}
use Rattle.lines_transcript.proofs.told_line.write_words.Goals as goal

pub add_word-requires-clause-word_clean : goal.add_word-requires-clause-word_clean
add_word-requires-clause-word_clean c =
    let word : c.format.result.now ≡ decimal c.args.told.now.to = search rules in
    rw word (number_clean c.args.told.now.to (search rules))

pub returns-clause-value : goal.returns-clause-value
returns-clause-value c =
    let words = said_words c.args.told.now.event in
    let word : c.format.result.now ≡ decimal c.args.told.now.to = search rules in
    on_ok_weaker c.add_said.result
    (λ (added : string_bytes c.add_said.new.line ≡ string_bytes c.add_word.new.line ++ spaced words).
    line_joined (decimal c.args.number) [] (decimal c.args.told.now.to ∷ words) _ _ c.in_ok-begin.ensures.value
    (spaced_first (decimal c.args.told.now.to) words (string_bytes c.begin.new.line) _ _
    (rw word at c.in_ok-add_word.ensures.added) added))
    c.add_said.ensures.added
