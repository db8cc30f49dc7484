use Rattle.relay_objects.specs.declared.change.Change.TheVariants.{Ask}
use Rattle.relay_objects.proofs.ChangedLists.{still_listed}
use Rattle.relay_objects.proofs.objects.Objects.request.Goals as goal

pub invariant_of-self : goal.invariant_of-self
invariant_of-self c =
    rw c.change.ensures.items
    (still_listed c.self.inside.shelf.items c.self.inside.fields.items c.self.inside.popups.items c.self.inside.entered
    c.self.inside.bound c.args.field (Ask c.args.act) tt c.self.invariant)
