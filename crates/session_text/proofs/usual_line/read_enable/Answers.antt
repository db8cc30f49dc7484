use Rattle.std.proofs.Common.{sym}
use Rattle.session_text.proofs.UsualLines.{enable_read}
use Rattle.session_text.proofs.usual_line.read_enable.Goals as goal

pub returns : goal.returns
returns c = enable_read c.args.rest.now c.in_ok-field.field (sym c.in_ok-field.ensures)
