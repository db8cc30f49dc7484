use Rattle.std.proofs.Common.{sym}
use Rattle.session_text.proofs.UsualLines.{commit_read}
use Rattle.session_text.proofs.usual_line.read_commit.Goals as goal

pub returns : goal.returns
returns c = commit_read c.args.rest.now c.in_ok-field.field (sym c.in_ok-field.ensures)
