use Rattle.std.proofs.Common.{◌≡◌, Some, sym, ap, ◌∙◌, subst}
use mathlib.Core.Option.{some-injective}
use Rattle.turn_lock.specs.Sights.{IsTallied}
use Rattle.turn_lock.proofs.StepsKeepRule.{closes}
use Rattle.turn_lock.proofs.turn.Turn.close.Goals as goal

inside-some : {S : Type 0} {x y : S} → Some x ≡ Some y → x ≡ y
inside-some e = cc

pub unreachable-requires : goal.unreachable-requires
unreachable-requires g c =
    let i = c.seat.invariant in
    let k = closes g.S.Story.constant g.S.Story.history _ _ _ _ _ i.rest.live i.rest.free
    (ap (λ s. s.number) c.seat.view_is ∙ c.requires.first)
    (ap (λ s. s.out) c.seat.view_is ∙ c.requires.all) c.close_with-closed.ensures.values.2 in
    c.in_default.not-Some k.story (some-injective _ _ (sym c.take-slot.ensures.value ∙ k.home))

pub returns-clause-constant : goal.returns-clause-constant
returns-clause-constant g c =
    let i = c.seat.invariant in
    let k = closes g.S.Story.constant g.S.Story.history _ _ _ _ _ i.rest.live i.rest.free
    (ap (λ s. s.number) c.seat.view_is ∙ c.requires.first)
    (ap (λ s. s.out) c.seat.view_is ∙ c.requires.all) c.close_with-closed.ensures.values.2 in
    let e : Some k.story ≡ Some c.in-Some.story = sym (some-injective _ _ (sym c.take-slot.ensures.value ∙ k.home))
    ∙ c.in-Some.is in
    sym (ap (λ s. s.constant) c.seat.view_is) ∙ (k.constant_is ∙ ap (λ x. Some (g.S.Story.constant x)) (inside-some e))

pub returns-clause-history : goal.returns-clause-history
returns-clause-history g c =
    let i = c.seat.invariant in
    let k = closes g.S.Story.constant g.S.Story.history _ _ _ _ _ i.rest.live i.rest.free
    (ap (λ s. s.number) c.seat.view_is ∙ c.requires.first)
    (ap (λ s. s.out) c.seat.view_is ∙ c.requires.all) c.close_with-closed.ensures.values.2 in
    let e : Some k.story ≡ Some c.in-Some.story = sym (some-injective _ _ (sym c.take-slot.ensures.value ∙ k.home))
    ∙ c.in-Some.is in
    ap g.S.Story.history (sym (inside-some e)) ∙ (k.seen ∙ ap (λ s. s.seen) c.seat.view_is)

pub returns-clause-total : goal.returns-clause-total
returns-clause-total g c =
    let t = c.seat.invariant.tallied (ap (λ s. s.number) c.seat.view_is
    ∙ c.requires.first) c.seat.inside.inner.table_id in
    (subst IsTallied c.seat.view_is t).all c.requires.all
