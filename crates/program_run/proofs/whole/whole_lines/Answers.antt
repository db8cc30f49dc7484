use Rattle.std.proofs.Common.{arith}
use Rattle.program_run.proofs.ScriptLines.{cut_long, cut_short}
use Rattle.program_run.proofs.whole.whole_lines.Goals as goal

pub returns-then-input-end-gt-LINE_LIMIT : goal.returns-then-input-end-gt-LINE_LIMIT
returns-then-input-end-gt-LINE_LIMIT c =
    cut_long c.args.input.now c.end_of_lines-end.result c.end_of_lines-end.ensures
    (omega (arith, c.if-input-end-gt-LINE_LIMIT.true))

pub returns : goal.returns
returns c =
    cut_short c.args.input.now c.end_of_lines-end.result c.end_of_lines-end.ensures
    (omega (arith, c.if-input-end-gt-LINE_LIMIT.false))
