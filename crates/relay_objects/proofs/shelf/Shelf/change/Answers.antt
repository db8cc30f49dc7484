use Rattle.std.proofs.Common.{map, ap, sym, ◌∙◌, refl}
use Rattle.relay_objects.specs.Changes.{changed_at}
use Rattle.relay_objects.proofs.NamedObjects.{found_there, items_changed, stands_changed, items_unchanged}
use Rattle.relay_objects.proofs.shelf.Shelf.change.Goals as goal

pub index_mut-requires : goal.index_mut-requires
index_mut-requires c =
    let key = sym c.key_of.ensures ∙ c.in-Some.is in
    rw (found_there c.self.inside.slab c.self.inside.places.items c.args.label c.in-Some.key c.self.invariant.held
    (rw c.deref.ensures.value at key)).1 refl

pub invariant_of-self : goal.invariant_of-self
invariant_of-self c =
    let key = sym c.key_of.ensures ∙ c.in-Some.is in
    rw c.change.ensures
    (stands_changed c.args.label c.args.change c.self.inside.slab c.self.inside.places.items c.self.invariant
    c.in-Some.key (rw c.deref.ensures.value at key) c.index_mut.result.now c.index_mut.ensures.value)

pub returns-in-Some-clause-items : goal.returns-in-Some-clause-items
returns-in-Some-clause-items c =
    let key = sym c.key_of.ensures ∙ c.in-Some.is in
    rw c.change.ensures
    (items_changed c.args.label c.args.change c.self.inside.slab c.self.inside.places.items c.self.invariant
    c.in-Some.key (rw c.deref.ensures.value at key) c.index_mut.result.now c.index_mut.ensures.value)
    ∙ ap (λ v. map (changed_at c.args.label c.args.change) v.items) c.self.view_is

pub returns-in_default-clause-items : goal.returns-in_default-clause-items
returns-in_default-clause-items c =
    let key = sym c.key_of.ensures ∙ c.in_default.is in
    rw (← c.self.view_is)
    (items_unchanged c.args.label c.args.change c.self.inside.slab c.self.inside.places.items c.self.invariant
    (rw c.deref.ensures.value at key))
