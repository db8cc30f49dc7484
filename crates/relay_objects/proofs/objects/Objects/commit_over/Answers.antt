use Rattle.relay_objects.specs.declared.change.Change.TheVariants.{Commit, Displace}
use Rattle.relay_objects.proofs.ChangedLists.{still_listed, commit_over}
use Rattle.relay_objects.proofs.objects.Objects.commit_over.Goals as goal

pub invariant_of-self : goal.invariant_of-self
invariant_of-self c =
    rw (c.change-2.ensures.items, c.change.ensures.items)
    (still_listed _ c.self.inside.fields.items c.self.inside.popups.items c.self.inside.entered c.self.inside.bound
    c.args.field Commit tt
    (still_listed c.self.inside.shelf.items c.self.inside.fields.items c.self.inside.popups.items c.self.inside.entered
    c.self.inside.bound c.args.other Displace tt c.self.invariant))

pub returns-clause-items : goal.returns-clause-items
returns-clause-items c =
    rw (c.change-2.ensures.items, c.change.ensures.items, ← c.self.view_is)
    (commit_over c.args.field c.args.other c.self.inside.shelf.items c.requires)
