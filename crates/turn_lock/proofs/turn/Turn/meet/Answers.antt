use Rattle.std.proofs.Common.{rules, ◌∙◌, ap, sym, subst}
use Rattle.turn_lock.specs.Rule.{IsMet, sight_of}
use Rattle.turn_lock.specs.Steps.{Tallied}
use Rattle.turn_lock.specs.Sights.{IsMeeting}
use Rattle.turn_lock.proofs.StepsKeepRule.{allows-meet, allows-learn}
use Rattle.turn_lock.proofs.SeatsBetweenCalls.{idle-met, meeting}
use Rattle.turn_lock.proofs.turn.Turn.meet.Goals as goal

pub join_seat-requires : goal.join_seat-requires
join_seat-requires g c = let i = c.seat.invariant in let o = c.other.invariant in (
  search rules,
  search rules,
  search rules,
  search rules,
  allows-meet g.S.Story.constant g.S.Story.history _ _ _ _ _
      (ap (λ s. s.number) c.seat.view_is ∙ c.requires.first) i.rest.live i.rest.free o.rest.live o.rest.free,
)

pub load-requires : goal.load-requires
load-requires g c = let e = c.join_seat.ensures.2 in (
  search rules,
  search rules,
  allows-learn g.S.Story.constant g.S.Story.history _ _ _ _
      (ap (λ m. m.0.number) e ∙ (ap (λ s. s.number) c.seat.view_is ∙ c.requires.first))
      (ap (λ m. m.0.is_live) e ∙ c.seat.invariant.rest.live),
)

pub invariant_of-seat : goal.invariant_of-seat
invariant_of-seat g c =
    let k = c.load.ensures.2 in let e = c.join_seat.ensures.2 in
    idle-met _ c.other.inside.inner.me _ _ _ c.seat.invariant (k.0 ∙ ap (λ m. m.0) e)
    (k.1 ∙ (ap (λ m. m.1) e ∙ c.seat.invariant.rest.empty))
    (subst Tallied (sym k.0) k.3)

pub returns-clause-both : goal.returns-clause-both
returns-clause-both g c =
    let k = c.load.ensures.2 in let e = c.join_seat.ensures.2 in
    let both = meeting c.seat.inside.inner.me c.other.inside.inner.me c.load.new.seat.me c.seat.inside.inner.table_id
    c.other.inside.inner.table_id
    (ap (λ s. s.number) c.seat.view_is ∙ c.requires.first) (k.0 ∙ ap (λ m. m.0) e)
    (subst (λ v. IsMet v.met) (sym k.0) k.2) in
    subst (λ s. IsMeeting s c.args.other c.load.new.seat.me.0.seen) c.seat.view_is
    (subst (λ o. IsMeeting
    (sight_of c.seat.inside.inner.table_id c.seat.inside.inner.me.0) o c.load.new.seat.me.0.seen) c.other.view_is both)

pub returns-clause-tallied : goal.returns-clause-tallied
returns-clause-tallied g c =
    let k = c.load.ensures.2 in let e = c.join_seat.ensures.2 in
    subst Tallied (sym k.0) k.3 (ap (λ v. v.number) k.0 ∙
    (ap (λ m. m.0.number) e ∙ (ap (λ s. s.number) c.seat.view_is ∙ c.requires.first))) _
