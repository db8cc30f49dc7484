use Rattle.std.proofs.Common.{sym, ◌∙◌}
use Rattle.audit_run.proofs.StepsGathered.{leads_on}
use Rattle.audit_run.proofs.taking.play_gathered.Goals as goal

pub returns : goal.returns
returns c = λ all o.
    leads_on all c.args.line.now c.args.player.now c.line_watched.new.self c.args.gatherer.now c.line_watched.new.watch
    o (c.in_ok-line_watched.ensures.played o.unspent) c.in_ok-line_watched.ensures.ok c.line_watched.ensures.watched
    (sym c.is_short.ensures ∙ c.if-is_short.false)
