use Rattle.std.proofs.Common.{rules, ap, ◌∙◌, sym}
use Rattle.turn_lock.proofs.StepsKeepRule.{allows-free}
use Rattle.turn_lock.proofs.turn.Turn.free.Goals as goal

pub swap-requires : goal.swap-requires
swap-requires g c =
    let x = c.requires.ready.0 in
    let k = c.requires.ready.1 in
    let e = c.count.ensures.seen x k.hands in (
      search rules,
      search rules,
      allows-free g.S.Story.constant g.S.Story.history _ _ _ _ x (ap (λ m. m.1) e ∙ k.hands) (ap (λ m. m.0.holds) e)
          (ap (λ m. m.0.is_live) e ∙ k.live) (ap (λ m. m.0.constant) e ∙ c.requires.ready.2)
          (sym (ap (λ m. m.0.seen) e)) k.fits,
    )

pub count-requires-clause-ready : goal.count-requires-clause-ready
count-requires-clause-ready g c = search rules
