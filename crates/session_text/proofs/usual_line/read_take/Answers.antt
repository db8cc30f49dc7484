use Rattle.std.proofs.Common.{sym}
use Rattle.session_text.proofs.UsualLines.{take_read}
use Rattle.session_text.proofs.usual_line.read_take.Goals as goal

pub returns-in-Ok : goal.returns-in-Ok
returns-in-Ok c =
    take_read c.args.rest.now c.in_ok-digits.digits.now c.in_ok-digits.last.now c.in_ok-peer.peer c.in-Ok.most
    c.in_ok-digits.ensures.cut (sym c.in_ok-peer.ensures) c.in-Ok.ensures
