use Rattle.std.proofs.Common.{◌≡◌, rules, filter, arith}
use Rattle.std.proofs.lemmas.Fn.{filter_same}
use Rattle.relay_objects.specs.Objects.{not_peer}
use Rattle.relay_objects.proofs.RemovedObjects.{other_peer, sifted_peer, stands_sifted, named_sifted, count_others}
use Rattle.relay_objects.proofs.shelf.Shelf.remove_peer.Goals as goal

pub invariant_of-self : goal.invariant_of-self
invariant_of-self c =
    let left : c.retain.new.self.items ≡ filter (other_peer c.args.peer) c.self.inside.places.items =
    filter_same _ _ _ (λ x b f' k. search rules) _ _ c.retain.ensures.filtered in
    let keeps = rw c.deref.ensures.value at c.empty_slots.ensures.others in
    let counted = rw c.deref.ensures.value at c.empty_slots.ensures.emptied in
    let others = count_others c.self.inside.places.items c.args.peer in
    rw left (stands_sifted c.self.inside.slab c.empty_slots.new.slab (other_peer c.args.peer)
    (not_peer c.args.peer) c.self.inside.places.items c.self.invariant
    (sifted_peer c.self.inside.slab c.empty_slots.new.slab c.args.peer c.self.inside.places.items keeps)
    (omega (arith, c.self.invariant.counted)))

pub returns-clause-items : goal.returns-clause-items
returns-clause-items c =
    let left : c.retain.new.self.items ≡ filter (other_peer c.args.peer) c.self.inside.places.items =
    filter_same _ _ _ (λ x b f' k. search rules) _ _ c.retain.ensures.filtered in
    let keeps = rw c.deref.ensures.value at c.empty_slots.ensures.others in
    rw (left, ← c.self.view_is)
    (named_sifted c.self.inside.slab c.empty_slots.new.slab (other_peer c.args.peer)
    (not_peer c.args.peer) c.self.inside.places.items c.self.invariant.held
    (sifted_peer c.self.inside.slab c.empty_slots.new.slab c.args.peer c.self.inside.places.items keeps))
