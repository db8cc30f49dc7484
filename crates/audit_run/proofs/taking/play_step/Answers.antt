use Rattle.std.proofs.lemmas.Result.{err_from_is_err_and}
use Rattle.seat_set.specs.Played.{line_played}
use Rattle.audit_run.specs.Taking.{audit_limits}
use Rattle.audit_run.proofs.TakesOnWay.{step_over, step_stopped}
use Rattle.audit_run.proofs.taking.play_step.Goals as goal

pub returns-in_err-play_gathered : goal.returns-in_err-play_gathered
returns-in_err-play_gathered c =
    let p = err_from_is_err_and c.from_residual.result c.from_residual.ensures.1 in
    rw (p.1, p.2)
    (λ all o. step_stopped (line_played audit_limits c.args.line.now c.args.player.now.play) all
    c.in_err-play_gathered.field-0.0 c.play_gathered.new.player c.play_gathered.new.gatherer
    (c.in_err-play_gathered.ensures all o))

pub returns : goal.returns
returns c = λ all o.
    let l = c.in_ok-play_gathered.ensures all o in
    step_over (line_played audit_limits c.args.line.now c.args.player.now.play) all c.count-most.result
    c.play_gathered.new.player c.take_from_all.new.player c.play_gathered.new.gatherer c.take_from_all.new.gatherer
    c.take_from_all.result l c.count-most.ensures (c.take_from_all.ensures all l.2)
