use Rattle.std.proofs.lemmas.Result.{err_from_is_err_and}
use Rattle.audit_run.proofs.TakesDry.{took_nothing}
use Rattle.audit_run.proofs.taking.take_once.Goals as goal

pub returns-in_err-play_gathered : goal.returns-in_err-play_gathered
returns-in_err-play_gathered c =
    let p = err_from_is_err_and c.from_residual.result c.from_residual.ensures.1 in
    rw (p.1, p.2) (λ all o. c.in_err-play_gathered.ensures all o)

pub returns : goal.returns
returns c = λ all o.
    let l = c.in_ok-play_gathered.ensures all o in (
      l,
      λ e. took_nothing all c.args.number c.entries-before.result c.entries.result c.args.player.now
          c.play_gathered.new.player c.play_gathered.new.gatherer c.entries-before.ensures.number
          c.entries.ensures.number l e,
    )
