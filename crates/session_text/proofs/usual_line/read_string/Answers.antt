use Rattle.std.proofs.Common.{sym}
use Rattle.session_text.proofs.UsualLines.{string_read}
use Rattle.session_text.proofs.usual_line.read_string.Goals as goal

pub returns-in-Ok : goal.returns-in-Ok
returns-in-Ok c =
    string_read c.args.rest.now c.in_ok-digits.digits.now c.in_ok-digits.last.now c.in_ok-method.method c.in-Ok.text
    c.in_ok-digits.ensures.cut (sym c.in_ok-method.ensures) c.in-Ok.ensures
