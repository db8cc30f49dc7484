use Rattle.program_run.proofs.LinesLed.{led_on, led_full}
use Rattle.program_run.proofs.watched_line.play.Goals as goal

pub returns-in-Ok-clause-led : goal.returns-in-Ok-clause-led
returns-in-Ok-clause-led g c = λ unspent.
    led_on c.args.player.now c.line_watched.new.self c.args.line.now (c.in-Ok.ensures.played unspent)
    c.in-Ok.ensures.ok c.in-Ok.ensures.limits

pub returns-in-Err-Full-clause-led : goal.returns-in-Err-Full-clause-led
returns-in-Err-Full-clause-led g c = λ unspent.
    led_full c.args.player.now c.line_watched.new.self c.args.line.now c.in-Err-Full.kept
    ((rw c.in-Err-Full.field-0-is at c.in-Err-Full.ensures.played) unspent) c.in-Err-Full.ensures.limits
