use Rattle.std.proofs.Common.{rules, ◌≡◌, true, is_ok, ◌+◌, ◌<◌, ◌≤◌, ℕ, Ok, Err, length, sym, ap, ◌∙◌, subst, arith}
use Rattle.std.specs.List.{insert}
use Rattle.std.specs.Vec.{vec_capacity}
use Rattle.std.proofs.lemmas.List.Edits.{length-insert}
use Rattle.std.proofs.lemmas.List.Sorted.{answers_always}
use Rattle.broker_audience.specs.Marks.{Marked, is_marked, AreWithin}
use Rattle.broker_audience.proofs.MarkedPlaces.{searched, insert_within, insert_marked, already, few, within_later}
use Rattle.broker_audience.proofs.marks.Marks.mark.Goals as goal

pub returns-in-Ok-clause-marked : goal.returns-in-Ok-clause-marked
returns-in-Ok-clause-marked c = λ k.
    let facts = c.in-Ok.ensures in
    let ms = c.self.inside.places.items in
    let there = (searched c.deref.result.now (vec_capacity c.self.inside.places)
    (rw c.deref.ensures.value c.self.invariant) c.args.place (Ok c.in-Ok.field-0) facts.bound
    (facts.position (λ m. m) (answers_always _ _ _ (λ f a r g called. search rules)))).found in
    let held = rw c.deref.ensures.value at there in
    rw (← c.self.view_is) (already ms c.args.place c.in-Ok.field-0 0 k held.0 (held.1 0))

-- it goes where the search says
put_within : (c : goal.After-insert) (n : ℕ) → AreWithin 0 n c.self.inside.places.items → c.args.place < n →
    AreWithin 0 n (insert c.self.inside.places.items c.in-Err.at c.args.place)
put_within c n within lt =
    let facts = c.in-Err.ensures in
    let at = searched c.deref.result.now (vec_capacity c.self.inside.places)
    (rw c.deref.ensures.value c.self.invariant) c.args.place (Err c.in-Err.at) facts.bound
    (facts.position (λ m. m) (answers_always _ _ _ (λ f a r g called. search rules))) in
    let low = rw c.deref.ensures.value at at.low in
    let high = rw c.deref.ensures.value at at.high in
    insert_within c.self.inside.places.items 0 n c.args.place c.in-Err.at within (omega arith) lt low high

-- there is room
fits : (c : goal.After-insert) → c.insert.new.self.items ≡ insert c.self.inside.places.items c.in-Err.at c.args.place
fits c =
    let ms = c.self.inside.places.items in
    let bound : c.args.place < vec_capacity c.self.inside.places =
    subst (λ (m : Marked). c.args.place < m.bound) (sym c.self.view_is) c.requires.place in
    let end : c.in-Err.at ≤ length ms = rw c.deref.ensures.value at c.in-Err.ensures.bound in
    let longer : length (insert ms c.in-Err.at c.args.place) ≡ length ms + 1 =
    length-insert ms c.in-Err.at c.args.place end in
    let room = few (insert ms c.in-Err.at c.args.place) 0 (vec_capacity c.self.inside.places)
    (put_within c (vec_capacity c.self.inside.places) c.self.invariant bound) (omega arith) in
    let ok : is_ok c.insert.result ≡ true = c.insert.ensures.succeeds (omega (arith, longer, room)) in
    rw ok at c.insert.ensures.items

pub invariant_of-self : goal.invariant_of-self
invariant_of-self c =
    let bound : c.args.place < vec_capacity c.self.inside.places =
    subst (λ (m : Marked). c.args.place < m.bound) (sym c.self.view_is) c.requires.place in
    subst (AreWithin 0 (vec_capacity c.insert.new.self)) (sym (fits c))
    (within_later (insert c.self.inside.places.items c.in-Err.at c.args.place) 0 (vec_capacity c.self.inside.places)
    (vec_capacity c.insert.new.self)
    (put_within c (vec_capacity c.self.inside.places) c.self.invariant bound)
    (omega (arith, c.insert.ensures.capacity)))

pub returns-in-Err-clause-marked : goal.returns-in-Err-clause-marked
returns-in-Err-clause-marked c = λ k.
    ap (is_marked k) (fits c)
    ∙ rw (← c.self.view_is) (insert_marked c.self.inside.places.items c.args.place c.in-Err.at k)

pub returns-in-Err-clause-within : goal.returns-in-Err-clause-within
returns-in-Err-clause-within c = λ n within lt.
    subst (AreWithin 0 n) (sym (fits c))
    (put_within c n (subst (λ (m : Marked). AreWithin 0 n m.places) (sym c.self.view_is) within) lt)
