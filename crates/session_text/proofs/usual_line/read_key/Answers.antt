use Rattle.std.proofs.Common.{sym}
use Rattle.session_text.proofs.UsualLines.{key_read}
use Rattle.session_text.proofs.usual_line.read_key.Goals as goal

pub returns-in-Ok : goal.returns-in-Ok
returns-in-Ok c =
    key_read c.args.rest.now c.in_ok-first.behind.now c.in_ok-first.first.now c.in_ok-second.second.now
    c.in_ok-second.last.now c.in_ok-time.time c.in_ok-key.key c.in-Ok.state c.in_ok-first.ensures.cut
    c.in_ok-second.ensures.cut (sym c.in_ok-time.ensures) (sym c.in_ok-key.ensures) c.in-Ok.ensures
