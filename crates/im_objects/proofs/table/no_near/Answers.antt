use Rattle.std.proofs.Common.{sym, ◌∙◌}
use Rattle.std.specs.Ordering.{nat_cmp}
use Rattle.std.specs.FinMap as map
use Rattle.im_objects.proofs.table.no_near.Goals as goal

pub returns : goal.returns
returns c = λ id l. c.loop-near.invariant id l ∙ sym (map.get-empty nat_cmp id)
