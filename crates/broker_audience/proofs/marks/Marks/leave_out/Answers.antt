use Rattle.std.proofs.Common.{rules, ◌≡◌, not, eqb, filter, ◌<◌, suc, drop, ◌++◌, length, take, map, sym, ap, ◌∙◌, subst, arith}
use Rattle.std.specs.Vec.{vec_capacity}
use Rattle.std.proofs.lemmas.Grind.{common_steps}
use Rattle.std.proofs.lemmas.Fn.{filter_same}
use Rattle.broker_audience.specs.Marks.{Marked, is_marked, lowered, AreWithin}
use Rattle.broker_audience.proofs.MarkedPlaces.{left_out, out_within, out_marked, within_later}
use Rattle.broker_audience.proofs.marks.Marks.leave_out.Goals as goal

-- the marks behind move up
left : (c : goal.After-self-1) →
    take c.retain.new.self.len
    (c.lower_each.new.places ++ drop (length c.lower_each.new.places) c.retain.new.self.items)
    ≡ left_out c.args.place c.self.inside.places.items
left c =
    let stay : c.retain.new.self.items ≡ filter (λ m. not (eqb m c.args.place)) c.self.inside.places.items =
    filter_same _ _ _ (λ x b f' k. search rules) _ _ c.retain.ensures.filtered in
    let whole : take c.retain.new.self.len
    (c.lower_each.new.places ++ drop (length c.lower_each.new.places) c.retain.new.self.items)
    ≡ c.lower_each.new.places = grind (arith, common_steps) in
    whole ∙ c.lower_each.ensures ∙ ap (map (lowered c.args.place)) (c.deref_mut.ensures.value ∙ stay)

pub invariant_of-self : goal.invariant_of-self
invariant_of-self c =
    let bound : c.args.place < vec_capacity c.self.inside.places =
    subst (λ (m : Marked). c.args.place < m.bound) (sym c.self.view_is) c.requires.place in
    let same : vec_capacity c.retain.new.self ≡ vec_capacity c.self.inside.places =
    omega (arith, c.retain.ensures.capacity) in
    subst (AreWithin 0 (vec_capacity c.retain.new.self)) (sym (left c))
    (rw same (out_within c.self.inside.places.items 0 (vec_capacity c.self.inside.places) c.args.place
    (within_later c.self.inside.places.items 0 (vec_capacity c.self.inside.places)
    (suc (vec_capacity c.self.inside.places)) c.self.invariant (omega arith)) (omega arith) (omega arith)))

pub returns-clause-marked : goal.returns-clause-marked
returns-clause-marked c = λ k.
    ap (is_marked k) (left c) ∙ rw (← c.self.view_is) (out_marked c.self.inside.places.items c.args.place k)

pub returns-clause-within : goal.returns-clause-within
returns-clause-within c = λ n within le.
    subst (AreWithin 0 n) (sym (left c))
    (out_within c.self.inside.places.items 0 n c.args.place
    (subst (λ (m : Marked). AreWithin 0 (suc n) m.places) (sym c.self.view_is) within) le (omega arith))
