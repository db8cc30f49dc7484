use Rattle.relay_objects.specs.declared.change.Change.TheVariants.{Commit}
use Rattle.relay_objects.proofs.ChangedLists.{still_listed}
use Rattle.relay_objects.proofs.objects.Objects.commit.Goals as goal

pub invariant_of-self-in-Some-2-2 : goal.invariant_of-self-in-Some-2-2
invariant_of-self-in-Some-2-2 c =
    rw c.change.ensures.items
    (still_listed c.self.inside.shelf.items c.self.inside.fields.items c.self.inside.popups.items c.self.inside.entered
    c.self.inside.bound c.args.field Commit tt c.self.invariant)

pub invariant_of-self : goal.invariant_of-self
invariant_of-self c =
    rw c.change.ensures.items
    (still_listed c.self.inside.shelf.items c.self.inside.fields.items c.self.inside.popups.items c.self.inside.entered
    c.self.inside.bound c.args.field Commit tt c.self.invariant)
