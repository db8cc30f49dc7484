use Rattle.std.proofs.Common.{rules, subst}
use Rattle.turn_lock.specs.Steps.{GrownIf}
use Rattle.turn_lock.proofs.StepsKeepRule.{allows-grow}
use Rattle.turn_lock.proofs.turn.Turn.count.Goals as goal

pub fetch_add-requires : goal.fetch_add-requires
fetch_add-requires g c =
    let x = c.requires.ready.0 in
    let k = c.requires.ready.1 in
    let m = c.args.seat.now.me.0 in
    let grown = subst (λ b. GrownIf b m.number m.seen (g.S.Story.history x)) c.if-grew.true k.grown in (
      search rules,
      search rules,
      allows-grow g.S.Story.constant g.S.Story.history _ _ _ _ x grown.0 k.hands k.holds k.live grown.1 k.fits,
    )
