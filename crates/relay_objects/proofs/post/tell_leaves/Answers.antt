use Rattle.std.proofs.Common.{subst, ap, ◌∙◌, refl}
use Rattle.relay_model.specs.declared.said.Said.TheVariants.{Leave}
use Rattle.relay_objects.specs.Reached.{Reached}
use Rattle.relay_objects.specs.Saying.{told_each}
use Rattle.relay_objects.proofs.ToldFields.{told_are, none_told}
use Rattle.relay_objects.proofs.post.tell_leaves.Goals as goal

pub returns-in-Some : goal.returns-in-Some
returns-in-Some g c =
    let told = ap (told_each (Leave c.args.surface)) c.fields_of.ensures
    ∙ told_are (Leave c.args.surface) c.in-Some.peer c.args.objects.now.items in
    rw c.in-Some.is
    (subst (λ ts. Reached g.P.Post.may_follow c.args.post.now ts c.leave_each.new.post) told c.leave_each.ensures)

pub returns-in_default : goal.returns-in_default
returns-in_default g c =
    rw (c.in_default.is, ← (none_told (Leave c.args.surface) c.args.objects.now.items)) refl
