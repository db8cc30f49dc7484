use Rattle.std.proofs.Common.{map}
use Rattle.std.specs.Fmt.{decimal}
use Rattle.std.proofs.lemmas.Result.{on_ok_weaker}
use Rattle.lines_transcript.proofs.ShortLines.{two_joined}
use Rattle.lines_transcript.proofs.short_line.write_numbers.Goals as goal

pub returns-clause-value : goal.returns-clause-value
returns-clause-value c =
    on_ok_weaker c.write_line.result
    (two_joined (decimal c.args.number) c.args.word.now
    (map decimal c.args.numbers.now) _ _ _ c.numbers_before-at.ensures.written c.word_before-at.ensures.written)
    c.write_line.ensures.value
