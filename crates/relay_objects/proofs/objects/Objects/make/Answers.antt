use Rattle.std.proofs.Common.{◌≤◌, subst, sym}
use Rattle.relay_objects.proofs.NewObject.{new_later, new_behind}
use Rattle.relay_objects.proofs.ListedObjects.{lists_made}
use Rattle.relay_objects.proofs.objects.Objects.make.Goals as goal

pub make-requires-clause-above : goal.make-requires-clause-above
make-requires-clause-above c =
    new_later c.self.inside.shelf.items c.self.inside.bound c.args.object.label c.self.invariant.1
    (subst (λ v. v.bound ≤ c.args.object.label) (sym c.self.view_is) c.requires.above)

pub invariant_of-self : goal.invariant_of-self
invariant_of-self c =
    rw (c.make.ensures.items, c.from.ensures) (
      lists_made c.self.inside.shelf.items c.self.inside.fields.items c.self.inside.popups.items c.self.inside.entered
          c.self.invariant.0 c.args.object c.list_field.new.fields.items c.list_popup.new.popups.items
          c.entered_with-self-inside.result
          c.list_field.ensures.rise c.list_field.ensures.parts c.list_popup.ensures.items
          c.entered_with-self-inside.ensures.keeps c.entered_with-self-inside.ensures.calm,
      new_behind c.self.inside.shelf.items c.args.object c.self.inside.bound c.self.invariant.1
          (subst (λ v. v.bound ≤ c.args.object.label) (sym c.self.view_is) c.requires.above),
    )
