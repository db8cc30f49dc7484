use Rattle.std.proofs.Common.{rules}
use Rattle.lines_transcript.proofs.step_line.message.Goals as goal

pub returns : goal.returns
returns c = search rules
