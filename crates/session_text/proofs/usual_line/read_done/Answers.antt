use Rattle.std.proofs.Common.{sym}
use Rattle.session_text.proofs.UsualLines.{done_read}
use Rattle.session_text.proofs.usual_line.read_done.Goals as goal

pub returns : goal.returns
returns c = done_read c.args.rest.now c.in_ok-digits.digits.now c.in_ok-digits.last.now c.in_ok-method.method
    c.in_ok-serial.serial c.in_ok-digits.ensures.cut (sym c.in_ok-method.ensures) (sym c.in_ok-serial.ensures)
