use Rattle.std.proofs.Common.{refl, sym, subst}
use Rattle.relay_objects.specs.Labels.{IsNew}
use Rattle.relay_objects.proofs.NewObject.{stands_made, named_made}
use Rattle.relay_objects.proofs.shelf.Shelf.make.Goals as goal

pub invariant_of-self : goal.invariant_of-self
invariant_of-self c =
    rw c.push_reserved.ensures.items
    (stands_made c.self.inside.slab c.insert_reserved-key.new.self _ c.args.object
    (record { same_label = refl; same_peer = refl }) c.insert_reserved-key.ensures.was_vacant
    c.insert_reserved-key.ensures.updates
    c.self.inside.places.items c.self.invariant
    (subst (λ v. IsNew v.items c.args.object.label) (sym c.self.view_is) c.requires.above)
    c.insert_reserved-key.ensures.len)

pub returns-clause-items : goal.returns-clause-items
returns-clause-items c =
    rw (c.push_reserved.ensures.items, ← c.self.view_is)
    (named_made c.self.inside.slab c.insert_reserved-key.new.self _ c.args.object
    (record { same_label = refl; same_peer = refl }) c.insert_reserved-key.ensures.was_vacant
    c.insert_reserved-key.ensures.updates
    c.self.inside.places.items c.self.invariant.held)
