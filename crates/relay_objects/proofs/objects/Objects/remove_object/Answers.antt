use Rattle.std.proofs.Common.{◌≡◌, None, sym, ◌∙◌}
use Rattle.relay_objects.specs.Objects.{find, not_label}
use Rattle.relay_objects.proofs.NewObject.{new_filtered}
use Rattle.relay_objects.proofs.ListedObjects.{fields_rise, lists_without, none_goes}
use Rattle.relay_objects.proofs.objects.Objects.remove_object.Goals as goal

pub unlist-requires-clause-part : goal.unlist-requires-clause-part
unlist-requires-clause-part c =
    fields_rise c.self.inside.shelf.items c.self.inside.fields.items c.self.inside.popups.items c.self.inside.entered
    c.self.invariant.0 c.in-Some.object.peer c.in-Some.ensures.rise

pub invariant_of-self : goal.invariant_of-self
invariant_of-self c =
    rw (c.remove_object.ensures.items, c.unlist.ensures.fields, c.unlist.ensures.popups) (
      lists_without c.self.inside.shelf.items c.self.inside.fields.items c.self.inside.popups.items
          c.self.inside.entered c.self.invariant.0 c.args.label c.in-Some.object c.in-Some.ensures.rise
          c.in-Some.ensures.object,
      new_filtered (not_label c.args.label) c.self.inside.shelf.items c.self.inside.bound c.self.invariant.1,
    )

pub invariant_of-self-in_default : goal.invariant_of-self-in_default
invariant_of-self-in_default c =
    let none : None ≡ find c.self.inside.shelf.items c.args.label =
    sym c.in_default.is ∙ c.remove_object.ensures.object in
    rw (c.remove_object.ensures.items, ← (none_goes c.self.inside.shelf.items c.args.label none)) c.self.invariant
