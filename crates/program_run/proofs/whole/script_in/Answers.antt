use Rattle.std.proofs.Common.{◌∙◌, sym, ap}
use Rattle.program_run.specs.Lines.{lines_of}
use Rattle.program_run.proofs.ScriptLines.{script_whole}
use Rattle.program_run.proofs.whole.script_in.Goals as goal

pub returns : goal.returns
returns c = script_whole c.args.input.now ∙ ap (λ b. lines_of b c.args.input.now) (sym c.if-cut.false)
