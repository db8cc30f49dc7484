use Rattle.std.proofs.Common.{map}
use Rattle.std.specs.Fmt.{decimal}
use Rattle.std.proofs.lemmas.Result.{on_ok_weaker}
use Rattle.lines_transcript.proofs.ShortLines.{three_joined}
use Rattle.lines_transcript.proofs.short_line.write_said.Goals as goal

pub returns-clause-value : goal.returns-clause-value
returns-clause-value c =
    on_ok_weaker c.write_line.result
    (three_joined (decimal c.args.number) (decimal c.args.to) c.args.word.now
    (map decimal c.args.numbers.now) _ _ _ _ c.numbers_before-at.ensures.written c.word_before-at.ensures.written
    c.number_before-at.ensures.written)
    c.write_line.ensures.value
