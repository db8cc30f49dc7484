use Rattle.std.proofs.Common.{◌≡◌, rules, filter}
use Rattle.std.proofs.lemmas.Fn.{filter_same}
use Rattle.relay_objects.specs.Objects.{not_peer}
use Rattle.relay_objects.proofs.NewObject.{new_filtered}
use Rattle.relay_objects.proofs.ListedObjects.{other_owner, other_popup, lists_without_peer}
use Rattle.relay_objects.proofs.objects.Objects.remove_peer.Goals as goal

pub invariant_of-self : goal.invariant_of-self
invariant_of-self c =
    let fields : c.retain.new.self.items ≡ filter (other_owner c.args.peer) c.self.inside.fields.items =
    filter_same _ _ _ (λ x b f' k. search rules) _ _ c.retain.ensures.filtered in
    let popups : c.retain-2.new.self.items ≡ filter (other_popup c.args.peer) c.self.inside.popups.items =
    filter_same _ _ _ (λ x b f' k. search rules) _ _ c.retain-2.ensures.filtered in
    rw (fields, popups, c.remove_peer.ensures.items) (
      lists_without_peer c.self.inside.shelf.items c.self.inside.fields.items c.self.inside.popups.items
          c.self.inside.entered c.self.invariant.0 c.args.peer,
      new_filtered (not_peer c.args.peer) c.self.inside.shelf.items c.self.inside.bound c.self.invariant.1,
    )
