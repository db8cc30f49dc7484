use Rattle.std.proofs.Common.{sym}
use Rattle.session_text.proofs.UsualLines.{focus_read}
use Rattle.session_text.proofs.usual_line.read_focus.Goals as goal

pub returns : goal.returns
returns c = focus_read c.args.rest.now c.in_ok-digits.digits.now c.in_ok-digits.last.now c.in_ok-peer.peer c.in_ok-id.id
    c.in_ok-digits.ensures.cut (sym c.in_ok-peer.ensures) (sym c.in_ok-id.ensures)
