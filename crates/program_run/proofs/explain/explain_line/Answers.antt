use Rattle.std.proofs.Common.{List, sym, subst, ◌∙◌, arith}
use Rattle.relay_core.specs.Stands.{StandsFor}
use Rattle.broker_model.specs.Resolve.{resolve}
use Rattle.broker_model.specs.declared.journal.Entry.{Entry}
use Rattle.program_run.proofs.SessionsExplained.{finished, line_explained}
use Rattle.program_run.proofs.explain.explain_line.Goals as goal

pub returns : goal.returns
returns c = λ which done output gathered few s h.
    let player = c.args.player.now in
    let after = c.play_line.new.player in
    line_explained which c.args.stage.now c.play_line.new.stage player after c.close.new.self c.args.before done
    c.args.raw.now output gathered c.in_ok-end.end s c.in_ok-end.ensures.stage
    (c.in_ok-end.ensures.led s.unspent (omega (arith, few, s.count))) c.play_line.ensures.watched.grew
    (finished which player after c.args.explainer.now c.play_line.new.watch c.close.new.self gathered h
    c.play_line.ensures.watched
    (λ more grown watched.
    c.close.ensures.lines which player.limits.store more player.play.journal gathered watched.told
    (subst (λ (j : List Entry). StandsFor c.relay.result.now (resolve j)) grown c.relay.ensures)
    (sym c.is_short.ensures ∙ c.if-is_short.false)))
