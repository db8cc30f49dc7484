use Rattle.std.proofs.Common.{subst}
use Rattle.relay_objects.specs.Labels.{Rises}
use Rattle.relay_objects.proofs.NamedObjects.{slot_at, named_rise}
use Rattle.relay_objects.proofs.RemovedObjects.{stands_removed, items_removed, items_kept, found_removed, find_none}
use Rattle.relay_objects.proofs.shelf.Shelf.remove_object.Goals as goal

pub remove-requires : goal.remove-requires
remove-requires c =
    let at = rw c.deref.ensures.value at c.in-Some.ensures.found in
    slot_at c.self.inside.slab c.self.inside.places.items c.in-Some.at c.remove-place.result c.self.invariant.held
    at.within c.remove-place.ensures.value

pub invariant_of-self : goal.invariant_of-self
invariant_of-self c =
    let at = rw c.deref.ensures.value at c.in-Some.ensures.found in
    rw c.remove-place.ensures.items
    (stands_removed c.self.inside.slab c.remove.new.self c.self.inside.places.items c.self.invariant c.args.label
    c.in-Some.at at c.remove-place.result c.remove-place.ensures.value c.remove.result c.remove.ensures.value
    c.remove.ensures.updates c.remove.ensures.len)

pub returns-in-Some-clause-object : goal.returns-in-Some-clause-object
returns-in-Some-clause-object c =
    let at = rw c.deref.ensures.value at c.in-Some.ensures.found in
    rw (← c.self.view_is)
    (found_removed c.self.inside.slab c.remove.new.self c.self.inside.places.items c.self.invariant c.args.label
    c.in-Some.at at c.remove-place.result c.remove-place.ensures.value c.remove.result c.remove.ensures.value
    c.remove.ensures.updates)

pub returns-in-Some-clause-items : goal.returns-in-Some-clause-items
returns-in-Some-clause-items c =
    let at = rw c.deref.ensures.value at c.in-Some.ensures.found in
    rw (c.remove-place.ensures.items, ← c.self.view_is)
    (items_removed c.self.inside.slab c.remove.new.self c.self.inside.places.items c.self.invariant c.args.label
    c.in-Some.at at c.remove-place.result c.remove-place.ensures.value c.remove.result c.remove.ensures.value
    c.remove.ensures.updates)

pub returns-in-Some-clause-rise : goal.returns-in-Some-clause-rise
returns-in-Some-clause-rise c =
    subst (λ v. Rises v.items) c.self.view_is
    (named_rise c.self.inside.slab c.self.inside.places.items 0 c.self.invariant.rise c.self.invariant.held)

pub returns-in-None-clause-object : goal.returns-in-None-clause-object
returns-in-None-clause-object c =
    let none = c.in-None.ensures.absent in
    rw (← c.self.view_is)
    (find_none c.self.inside.slab c.self.inside.places.items c.args.label c.self.invariant
    (rw c.deref.ensures.value at none))

pub returns-in-None-clause-items : goal.returns-in-None-clause-items
returns-in-None-clause-items c =
    let none = c.in-None.ensures.absent in
    rw (← c.self.view_is)
    (items_kept c.self.inside.slab c.self.inside.places.items c.args.label c.self.invariant
    (rw c.deref.ensures.value at none))

pub returns-in-None-clause-rise : goal.returns-in-None-clause-rise
returns-in-None-clause-rise c =
    subst (λ v. Rises v.items) c.self.view_is
    (named_rise c.self.inside.slab c.self.inside.places.items 0 c.self.invariant.rise c.self.invariant.held)
