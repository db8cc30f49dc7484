use Rattle.std.proofs.Common.{rules, ◌∙◌, ap, sym, subst, arith}
use Rattle.turn_lock.specs.Pairs.{NoneOf}
use Rattle.turn_lock.proofs.StepsKeepRule.{allows-split}
use Rattle.turn_lock.proofs.SeatsBetweenCalls.{idle-split}
use Rattle.turn_lock.proofs.turn.Turn.split.Goals as goal

pub split_seat-inner-requires : goal.split_seat-inner-requires
split_seat-inner-requires g c = let i = c.seat.invariant in (
  search rules,
  search rules,
  allows-split g.S.Story.constant g.S.Story.history _ _ _
      (ap (λ s. s.number) c.seat.view_is ∙ c.requires.first) i.rest.live i.rest.free,
)

pub invariant_of-seat : goal.invariant_of-seat
invariant_of-seat g c = idle-split _ _ _ _ c.seat.invariant c.split_seat-inner.ensures.2

pub returns-clause-fresh : goal.returns-clause-fresh
returns-clause-fresh g c =
    let t = c.seat.invariant.tallied (ap (λ s. s.number) c.seat.view_is
    ∙ c.requires.first) c.seat.inside.inner.table_id in
    subst (λ m. NoneOf m.0.number m.0.seen) (sym c.split_seat-inner.ensures.4)
    (t.fresh c.seat.inside.inner.me.0.next (omega arith))

pub returns-clause-tallied : goal.returns-clause-tallied
returns-clause-tallied g c =
    (idle-split _ _ _ _ c.seat.invariant c.split_seat-inner.ensures.2).tallied
    (ap (λ m. m.0.number) c.split_seat-inner.ensures.2 ∙ (ap (λ s. s.number) c.seat.view_is ∙ c.requires.first)) _
