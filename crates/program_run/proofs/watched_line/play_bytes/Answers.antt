use Rattle.session_text.specs.declared.line.SessionLine.TheVariants as lines
use Rattle.program_run.proofs.LinesLed.{led_on, led_full}
use Rattle.program_run.proofs.watched_line.play_bytes.Goals as goal

pub returns-in-Ok-clause-led : goal.returns-in-Ok-clause-led
returns-in-Ok-clause-led g c = λ unspent.
    led_on c.args.player.now c.bytes_watched.new.self (lines.Bytes c.args.number c.args.piece.now)
    (c.in-Ok.ensures.played unspent) c.in-Ok.ensures.ok c.in-Ok.ensures.limits

pub returns-in-Err-Full-clause-led : goal.returns-in-Err-Full-clause-led
returns-in-Err-Full-clause-led g c = λ unspent.
    led_full c.args.player.now c.bytes_watched.new.self (lines.Bytes c.args.number c.args.piece.now)
    c.in-Err-Full.full
    ((rw c.in-Err-Full.field-0-is at c.in-Err-Full.ensures.played) unspent) c.in-Err-Full.ensures.limits
