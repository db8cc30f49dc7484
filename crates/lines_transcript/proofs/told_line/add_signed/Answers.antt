use Rattle.std.proofs.Common.{◌≡◌, ◌∷◌, ◌++◌, map, get_or, rules}
use Rattle.std.specs.Fmt.{signed_decimal}
use Rattle.std.specs.String.{string_bytes}
use lib.IntN.{pos}
use Rattle.std.proofs.lemmas.List.{take_all}
use Rattle.lines_transcript.specs.Told.{spaced}
use Rattle.lines_transcript.proofs.PrintedLines.{signed_clean, spaced_more, spaced_first}
use Rattle.lines_transcript.proofs.told_line.add_signed.Goals as goal

pub loop-number-preserved : goal.loop-number-preserved
loop-number-preserved c =
    let n = get_or c.args.numbers.now c.loop-number.number-index (pos 0) in
    let word : c.format.result.now ≡ signed_decimal n = search rules in
    let added : string_bytes c.add_word-in-loop-number.new.line
    ≡ string_bytes c.loop-number.line ++ 32 ∷ signed_decimal n = rw word at c.in_ok-add_word-2.ensures.added in
    record {
      added = spaced_more signed_decimal c.args.numbers.now c.loop-number.number-index (pos 0)
          (string_bytes c.add_word.new.line) (string_bytes c.loop-number.line)
          (string_bytes c.add_word-in-loop-number.new.line) (search rules) c.loop-number.invariant.added added;
      clean = c.in_ok-add_word-2.ensures.clean;
    }

pub add_word-requires-in-loop-number-clause-word_clean : goal.add_word-requires-in-loop-number-clause-word_clean
add_word-requires-in-loop-number-clause-word_clean c =
    let n = get_or c.args.numbers.now c.loop-number.number-index (pos 0) in
    let word : c.format.result.now ≡ signed_decimal n = search rules in
    rw word (signed_clean n (search rules))

pub returns : goal.returns
returns c =
    let all = take_all c.loop-number.number-index c.args.numbers.now c.loop-number-test.false in
    let rest : string_bytes c.loop-number.line
    ≡ string_bytes c.add_word.new.line ++ spaced (map signed_decimal c.args.numbers.now) =
    rw all at c.loop-number.invariant.added in
    record {
      added = spaced_first c.args.word.now (map signed_decimal c.args.numbers.now)
          (string_bytes c.args.line.now) _ _ c.in_ok-add_word.ensures.added rest;
      clean = c.loop-number.invariant.clean;
    }
