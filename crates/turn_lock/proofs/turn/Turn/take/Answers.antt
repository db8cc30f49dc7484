use Rattle.std.proofs.Common.{rules, sym, subst}
use Rattle.turn_lock.specs.Steps.{AtRest}
use Rattle.turn_lock.proofs.StepsKeepRule.{allows-take}
use Rattle.turn_lock.proofs.turn.Turn.take.Goals as goal

pub compare_exchange-requires : goal.compare_exchange-requires
compare_exchange-requires g c = (
  search rules,
  search rules,
  allows-take g.S.Story.constant g.S.Story.history _ _ _ _ (subst AtRest (sym c.loop.invariant.2) c.requires.rest),
)
