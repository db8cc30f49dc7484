use Rattle.session_text.proofs.LinesReadBack.{reads_only, reads_each}
use Rattle.session_text.proofs.line.one_spelling.Goals as goal

pub returns : goal.returns
returns c = record { only = reads_only; each = reads_each }
