use Rattle.std.proofs.Common.{drop}
use Rattle.relay_model.specs.declared.said.Said.TheVariants.{Leave}
use Rattle.relay_objects.specs.Reached.{Reached}
use Rattle.relay_objects.specs.Saying.{told_each}
use Rattle.relay_objects.proofs.post.leave_each.Given as goal

-- what is left to tell leads from here to where all leads from the start
abbrev pub invariant-loop-field : goal.invariant-loop-field
invariant-loop-field g l =
    (z : _) → Reached g.P.Post.may_follow l.post (told_each (Leave l.surface) (drop l.field-index l.fields)) z
    → Reached g.P.Post.may_follow l.fn.post (told_each (Leave l.surface) l.fields) z
